-- Answers to lines, by what was appended.
use Rattle.std.proofs.Common.{◌≡◌, ◌≢◌, ◌<◌, ℕ, List, [], ◌∷◌, ◌++◌, length, arith, refl, sym, ap, append-nil, subst, ◌==◌, Bool, false}
use Rattle.grid_exact.specs.declared.text.TheConstants.{LINE_LIMIT}
use Rattle.wire_requests.specs.Requests.{IsRecord, IsMalformed, Long}
use Rattle.wire_replies.specs.Replies.{reply_text}
use Rattle.wire_requests.specs.declared.request.Request.{Request}
use Rattle.case_records.specs.declared.refusal.Refusal.TheVariants as refusals
use Rattle.wire_replies.specs.declared.reply.Reply.TheVariants as replies
use Rattle.desk_receipts.specs.Keepers.{IsLater}
use Rattle.desk_queries.specs.Queries.{no_memory}
use Rattle.line_desk.specs.Desk.{Answers, IsAfter, Serving, Blank, Told, Refused, Wanting, Step, Served, Tells, Decided, NoRoom, NotKept, not_kept}

pub some_bytes : (b : Bool) (line : List ℕ) → b ≡ (length line == 0) → b ≡ false → 0 < length line
some_bytes b [] e f = absurd (cc (e, f))
some_bytes b (x ∷ xs) e f = omega (arith)

not_blank : (line : List ℕ) → 0 < length line → line ≢ []
not_blank line some e = omega (arith, some, ap length e)

module _ {K : Type 0} (IsSteady : K → Type 0) (faults : K → ℕ) where
  as_before : (s : Serving K) → IsLater IsSteady faults s.keeper s.keeper
  as_before s = record { steady = λ h. h; counted = omega (arith) }

  pub blank : (s : Serving K) (line text : List ℕ) → length line ≡ 0 → Answers IsSteady faults s line text text s
  blank s [] text e = record { reply = []; step = Served (Blank refl refl refl) (as_before s); appended = sym (append-nil text) }
  blank s (b ∷ bs) text e = absurd (omega (arith, e))

  pub told : (before after : Serving K) (r : Request) (line old new : List ℕ) → 0 < length line → IsRecord line r → Tells IsSteady faults before r old new after → Answers IsSteady faults before line old new after
  told before after r line old new some is (Decided reply d t s later) = record { reply = reply_text reply; step = Served (Told r reply is d refl s) later; appended = t }
  told before after r line old new some is (NoRoom t s later) = record { reply = reply_text no_memory; step = Served (Wanting (not_blank line some) refl s) later; appended = t }
  told before after r line old new some is (NotKept change e makes t s later failed) =
      record { reply = reply_text not_kept; step = Step.NotKept change (subst (λ (q : Request). IsRecord line q) e is) makes refl s later failed; appended = t }

  -- where the text of the reply may not be there whole
  pub after_told : (before after : Serving K) (r : Request) (line : List ℕ) → 0 < length line → IsRecord line r → IsAfter IsSteady faults before r after
      → (reply : List ℕ) × Step IsSteady faults before line reply after
  after_told before after r line some is (text, tells) = let answers = told before after r line [] text some is tells in (answers.reply, answers.step)

  pub after_refused : (s : Serving K) (line : List ℕ) (field : ℕ) → 0 < length line → IsMalformed line field → (reply : List ℕ) × Step IsSteady faults s line reply s
  after_refused s line field some is =
      let text = reply_text (replies.Refused (refusals.Malformed field)) in
      (text, Served (Refused (not_blank line some) field is refl refl) (as_before s))

  pub after_wanting : (s : Serving K) (line : List ℕ) → 0 < length line → (reply : List ℕ) × Step IsSteady faults s line reply s
  after_wanting s line some = (reply_text no_memory, Served (Wanting (not_blank line some) refl refl) (as_before s))

  pub refused : (s : Serving K) (line old new : List ℕ) (field : ℕ) → 0 < length line → IsMalformed line field → new ≡ old ++ reply_text (replies.Refused (refusals.Malformed field)) → Answers IsSteady faults s line old new s
  refused s line old new field some is t = record { reply = reply_text (replies.Refused (refusals.Malformed field)); step = Served (Refused (not_blank line some) field is refl refl) (as_before s); appended = t }

  pub wanting : (s : Serving K) (line old new : List ℕ) → 0 < length line → new ≡ old ++ reply_text no_memory → Answers IsSteady faults s line old new s
  wanting s line old new some t = record { reply = reply_text no_memory; step = Served (Wanting (not_blank line some) refl refl) (as_before s); appended = t }

  pub refused_long : (s : Serving K) (line : List ℕ) → LINE_LIMIT < length line → Step IsSteady faults s line (reply_text (replies.Refused (refusals.Malformed 0))) s
  refused_long s line long = Served (Refused (not_blank line (omega (arith, long))) 0 (Long long refl) refl refl) (as_before s)
