-- The bytes of a file, read piece by piece.
use Rattle.std.proofs.Common.{◌≡◌, ℕ, zero, suc, ◌+◌, ◌≤◌, List, [], ◌∷◌, ◌++◌, length, take, drop, sym, ap, ◌∙◌, arith, length-append, length-take}
use Rattle.std.proofs.lemmas.List.{take_all}
use Rattle.crash_disks.specs.Bytes.{IsPart}

take_add : (a b : ℕ) (xs : List ℕ) → take a xs ++ take b (drop a xs) ≡ take (a + b) xs
take_add zero b xs = let e : b ≡ 0 + b = omega arith in ap (λ (k : ℕ). take k xs) e
take_add (suc a) b [] = take_all b [] (omega arith) ∙ sym (take_all (suc a + b) [] (omega arith))
take_add (suc a) b (x ∷ xs) = let e : suc (a + b) ≡ suc a + b = omega arith in ap (λ (l : List ℕ). x ∷ l) (take_add a b xs) ∙ ap (λ (k : ℕ). take k (x ∷ xs)) e

pub one_more_piece : (file old new buffer : List ℕ) (n : ℕ) → old ≡ take (length old) file → IsPart file (length old) n buffer → n ≤ length buffer → new ≡ old ++ take n buffer → new ≡ take (length new) file
one_more_piece file old new buffer n front part room is =
    let l = length-take n buffer in
    let size = ap length is ∙ length-append old (take n buffer) in
    let total : length old + n ≡ length new = omega arith in
    is ∙ (λ i. front i ++ part.bytes i) ∙ take_add (length old) n file ∙ ap (λ (k : ℕ). take k file) total

pub all_read : (file bytes : List ℕ) (size : ℕ) → bytes ≡ take (length bytes) file → size ≡ length file → size ≤ length bytes → bytes ≡ file
all_read file bytes size front is le = front ∙ take_all (length bytes) file (omega arith)
