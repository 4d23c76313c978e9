-- Texts, cut at their first line feed.
use Rattle.std.proofs.Common.{arith, ℕ, Bool, ◌+◌, ◌<◌, ◌≡◌, ◌==◌, true, false, Option, Some, None, IfSome, IfNone, List, [], ◌∷◌, ◌++◌, take, drop, length, get_or, get_or-take, length-take, subst, refl, sym, ap, ◌∙◌}
use Rattle.std.specs.List.{slice_split}
use Rattle.std.proofs.lemmas.List.{append_cancel_left, take-append-drop, drop_more}
use Rattle.std.proofs.lemmas.List.Elements.{All-head, All-tail, All-from_get_or}
use Rattle.std.proofs.lemmas.List.Splits.{slice_split_at}
use Rattle.memchr.specs.Find.{IsFirstByte, is_byte}
use Rattle.wire_cursor.proofs.GroupFacts.{at}
use Rattle.row_receipts.specs.Receipts.{IsLine}

-- a text without a line feed has none
no_feed_in : (line behind : List ℕ) → IsLine (line ++ 10 ∷ behind) → ⊥
no_feed_in [] behind h = let e : true ≡ false = All-head (λ b. (b == 10) ≡ false) 10 behind h in cc
no_feed_in (b ∷ bs) behind h = no_feed_in bs behind (All-tail (λ b. (b == 10) ≡ false) b (bs ++ 10 ∷ behind) h)

pub no_line : (text line behind : List ℕ) → IsLine text → text ≡ line ++ 10 ∷ behind → ⊥
no_line text line behind h e = no_feed_in line behind (subst IsLine e h)

-- a text is cut in one way
pub record SameCut (line line' behind behind' : List ℕ) : Type 0 where
  pub line_is : line ≡ line'
  pub behind_is : behind ≡ behind'

pub one_cut : (line line' behind behind' : List ℕ) → IsLine line → IsLine line' → line ++ 10 ∷ behind ≡ line' ++ 10 ∷ behind' → SameCut line line' behind behind'
one_cut line line' behind behind' h k e =
    let lines = sym (slice_split_at (λ b. b == 10) line 10 behind h refl) ∙ ap (slice_split (λ b. b == 10)) e ∙ slice_split_at (λ b. b == 10) line' 10 behind' k refl in
    let same : line ≡ line' = at 0 lines in
    record {
      line_is = same;
      behind_is = ap (drop 1) (append_cancel_left line (10 ∷ behind) (10 ∷ behind') (e ∙ ap (λ t. t ++ 10 ∷ behind') (sym same)));
    }

-- ---- where the first line feed is

not_true : (b : Bool) → (b ≡ true → ⊥) → b ≡ false
not_true true h = absurd (h refl)
not_true false h = refl

pub no_feed : (text : List ℕ) (r : Option ℕ) → IsFirstByte (is_byte 10) text r → IfNone r (IsLine text)
no_feed text None h = All-from_get_or (λ b. (b == 10) ≡ false) text 0 (λ j lt. not_true _ (h j (omega arith) lt))
no_feed text (Some k) h = tt

pub feed_within : (text : List ℕ) (r : Option ℕ) → IsFirstByte (is_byte 10) text r → IfSome r (λ k. k < length text)
feed_within text None h = tt
feed_within text (Some k) h = h.0.high

pub feed_line : (text : List ℕ) (r : Option ℕ) → IsFirstByte (is_byte 10) text r → IfSome r (λ k. IsLine (take k text))
feed_line text None h = tt
feed_line text (Some k) h = All-from_get_or (λ b. (b == 10) ≡ false) (take k text) 0 (λ j lt.
    let small : j < k = omega (arith, lt, length-take k text) in
    rw (get_or-take k text j 0 small) (not_true _ (h.0.before j (omega arith) small)))

pub feed_there : (text : List ℕ) (r : Option ℕ) → IsFirstByte (is_byte 10) text r → IfSome r (λ k. text ≡ take k text ++ 10 ∷ drop (k + 1) text)
feed_there text None h = tt
feed_there text (Some k) h =
    let byte : get_or text k 0 ≡ 10 = grind (arith, h.1) in
    sym (take-append-drop k text) ∙ ap (λ t. take k text ++ t) (drop_more text k 0 h.0.high ∙ ap (λ b. b ∷ drop (k + 1) text) byte)
