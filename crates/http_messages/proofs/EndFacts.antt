-- The end of a body's line.
use Rattle.std.proofs.Common.{◌≡◌, ◌-◌, ℕ, Bool, true, false, List, [], ◌∷◌, ◌++◌, length, take, drop, refl, sym, ap, ◌∙◌, arith, append_assoc, inl, inr, nat_eq, length-append}
use Rattle.std.proofs.lemmas.List.{take-append-drop}
use Rattle.std.proofs.lemmas.Bool.{false≢true}
use Rattle.std.proofs.lemmas.Bool.Decides.{Decides-eqb}
use Rattle.std.specs.Bool.{Decides}
use Rattle.std.proofs.lemmas.Slice.Eq.{slice_eq-Decides}
use Rattle.std.specs.Cmp.Lexicographic.{pointwise}
use Rattle.http_messages.specs.Records.{EndsIn, IsWithoutEnd}

-- a test of two texts that passes
same_texts : (a b : List ℕ) (t : Bool) → Decides t (a ≡ b) → t ≡ true → a ≡ b
same_texts a b t d e = d.0 e

other_texts : (a b : List ℕ) (t : Bool) → Decides t (a ≡ b) → t ≡ false → a ≡ b → ⊥
other_texts a b t d e same = false≢true (sym e ∙ d.1 same)

-- the bytes behind a front, counted from the end
behind : (front : List ℕ) (byte : ℕ) → drop (length (front ++ byte ∷ []) - 1) (front ++ byte ∷ []) ≡ byte ∷ []
behind front byte = let n : length (front ++ byte ∷ []) - 1 ≡ length front = omega (arith, length-append front (byte ∷ [])) in rw n (go front)
  where
    go : (a : List ℕ) → drop (length a) (a ++ byte ∷ []) ≡ byte ∷ []
    go [] = refl
    go (x ∷ a) = go a

-- a suffix of one byte that was found
pub found : (bytes front : List ℕ) (byte : ℕ) → pointwise nat_eq (drop (length bytes - 1) bytes) (byte ∷ []) ≡ true
    → front ≡ take (length bytes - 1) bytes → bytes ≡ front ++ byte ∷ []
found bytes front byte test is =
    let last : drop (length bytes - 1) bytes ≡ byte ∷ [] = same_texts _ _ _ (slice_eq-Decides Decides-eqb (drop (length bytes - 1) bytes)
    (byte ∷ []) _ refl) test in
    sym (take-append-drop (length bytes - 1) bytes) ∙ rw (last, sym is) refl

-- a suffix of one byte that was not found
pub missing : (bytes : List ℕ) (byte : ℕ) → pointwise nat_eq (drop (length bytes - 1) bytes) (byte ∷ []) ≡ false → EndsIn byte bytes → ⊥
missing bytes byte test ends =
    other_texts _ _ _ (slice_eq-Decides Decides-eqb (drop (length bytes - 1) bytes) (byte ∷ []) _ refl) test
    (ap (λ (t : List ℕ). drop (length t - 1) t) ends.1 ∙ behind ends.0 byte)

pub with_both : (body line bytes : List ℕ)
    → pointwise nat_eq (drop (length body - 1) body) (10 ∷ []) ≡ true → line ≡ take (length body - 1) body
    → pointwise nat_eq (drop (length line - 1) line) (13 ∷ []) ≡ true → bytes ≡ take (length line - 1) line → IsWithoutEnd body bytes
with_both body line bytes feed line_is return bytes_is =
    inl (found body line 10 feed line_is ∙ ap (λ (t : List ℕ). t ++ 10 ∷ []) (found line bytes 13 return bytes_is)
    ∙ append_assoc bytes (13 ∷ []) (10 ∷ []))

pub with_feed : (body line : List ℕ)
    → pointwise nat_eq (drop (length body - 1) body) (10 ∷ []) ≡ true → line ≡ take (length body - 1) body
    → pointwise nat_eq (drop (length line - 1) line) (13 ∷ []) ≡ false → IsWithoutEnd body line
with_feed body line feed line_is return = inr (inl (found body line 10 feed line_is, missing line 13 return))

pub with_none : (body : List ℕ) → pointwise nat_eq (drop (length body - 1) body) (10 ∷ []) ≡ false → IsWithoutEnd body body
with_none body feed = inr (inr (refl, missing body 10 feed))
