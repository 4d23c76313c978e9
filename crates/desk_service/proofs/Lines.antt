-- Lines and the texts of their replies, by what was appended.
use Rattle.std.proofs.Common.{◌≡◌, ◌≢◌, ◌<◌, ℕ, List, [], ◌∷◌, ◌++◌, length, arith, refl, sym, ap, append-nil, ◌==◌, Bool, false, Option, Result, Ok, Err}
use Rattle.std.specs.Result.{OnOk, OnErr, is_err}
use Rattle.grid_exact.specs.declared.text.TheConstants.{LINE_LIMIT}
use Rattle.airfields.specs.declared.airfield.Airfield.{Airfield}
use Rattle.wire_requests.specs.Requests.{IsRecord, IsMalformed, Long}
use Rattle.wire_requests.specs.declared.request.Request.{Request}
use Rattle.wire_replies.specs.Replies.{reply_text}
use Rattle.wire_replies.specs.declared.reply.Reply.TheVariants as replies
use Rattle.case_records.specs.declared.refusal.Refusal.TheVariants as refusals
use Rattle.desk_machine.specs.States.{State}
use Rattle.desk_queries.specs.Queries.{no_memory}
use Rattle.desk_service.specs.Sittings.{Sitting}
use Rattle.desk_service.specs.Replies.{Appends, IsAfter, Line, Tells}

pub some_bytes : (b : Bool) (line : List ℕ) → b ≡ (length line == 0) → b ≡ false → 0 < length line
some_bytes b [] e f = absurd (cc (e, f))
some_bytes b (x ∷ xs) e f = omega (arith)

not_blank : (line : List ℕ) → 0 < length line → line ≢ []
not_blank line some e = omega (arith, some, ap length e)

module _ {K : Type 0} (IsSteady : K → Type 0) (faults : K → ℕ) (first : Option (List Airfield)) (base : ℕ) (opening : State) where
  pub blank : (s : Sitting K) (line text : List ℕ) → length line ≡ 0 → Appends IsSteady faults first base opening s line text text s
  blank s [] text e = record { text = []; replies = Line.Blank refl refl refl; appended = sym (append-nil text) }
  blank s (b ∷ bs) text e = absurd (omega (arith, e))

  pub told : (s t : Sitting K) (r : Request) (line old new : List ℕ) → IsRecord line r → Tells IsSteady faults first base opening s r old new t → Appends IsSteady faults first base opening s line old new t
  told s t r line old new is h = record { text = reply_text h.reply; replies = Line.Told r h.reply is h.answers refl; appended = h.appended }

  pub refused : (s : Sitting K) (line old new : List ℕ) (field : ℕ) → 0 < length line → IsMalformed line field → new ≡ old ++ reply_text (replies.Refused (refusals.Malformed field))
      → Appends IsSteady faults first base opening s line old new s
  refused s line old new field some is appended =
      record { text = reply_text (replies.Refused (refusals.Malformed field)); replies = Line.Refused (not_blank line some) field is refl refl; appended = appended }

  pub unread : (s : Sitting K) (line old new : List ℕ) → 0 < length line → new ≡ old ++ reply_text no_memory → Appends IsSteady faults first base opening s line old new s
  unread s line old new some appended = record { text = reply_text no_memory; replies = Line.Unread (not_blank line some) refl refl; appended = appended }

  pub refused_long : (s : Sitting K) (line : List ℕ) → LINE_LIMIT < length line → Line IsSteady faults first base opening s line (reply_text (replies.Refused (refusals.Malformed 0))) s
  refused_long s line long = Line.Refused (not_blank line (omega (arith, long))) 0 (Long long refl) refl refl

  -- ---- where the text of the reply may not be there whole

  pub after : (s t : Sitting K) (r : Request) (new : List ℕ) → Tells IsSteady faults first base opening s r [] new t → IsAfter IsSteady faults first base opening s r t
  after s t r new h = (h.reply, h.answers)

  pub after_told : (s t : Sitting K) (r : Request) (line : List ℕ) → IsRecord line r → IsAfter IsSteady faults first base opening s r t
      → (text : List ℕ) × Line IsSteady faults first base opening s line text t
  after_told s t r line is (reply, answers) = (reply_text reply, Line.Told r reply is answers refl)

  pub after_refused : (s : Sitting K) (line : List ℕ) (field : ℕ) → 0 < length line → IsMalformed line field → (text : List ℕ) × Line IsSteady faults first base opening s line text s
  after_refused s line field some is =
      (reply_text (replies.Refused (refusals.Malformed field)), Line.Refused (not_blank line some) field is refl refl)

  pub after_unread : (s : Sitting K) (line : List ℕ) → 0 < length line → (text : List ℕ) × Line IsSteady faults first base opening s line text s
  after_unread s line some = (reply_text no_memory, Line.Unread (not_blank line some) refl refl)

-- ---- where a call answered Ok, or Err

pub on_ok : {A E P Q : Type 0} (r : Result A E) → (P → Q) → OnOk r P → OnOk r Q
on_ok (Ok x) f p = f p
on_ok (Err e) f p = tt

pub ok_shown : {A E P : Type 0} (r : Result A E) → false ≡ is_err r → OnOk r P → P
ok_shown (Ok x) h p = p
ok_shown (Err e) h p = absurd (cc (h))

pub on_err : {A E P : Type 0} (r : Result A E) → P → OnErr r P
on_err (Ok x) p = tt
on_err (Err e) p = p

pub err_shown : {A E P Q : Type 0} (r : Result A E) → (P → Q) → OnErr r P → OnErr r Q
err_shown (Ok x) f p = tt
err_shown (Err e) f p = f p
