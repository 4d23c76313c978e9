-- Reading changes one after another, as a loop does.
use Rattle.std.proofs.Common.{◌≡◌, ℕ, suc, ◌<◌, List, [], ◌∷◌, ◌++◌, length, Option, Some, None, refl, sym, ap, ◌∙◌, arith, append_assoc}
use Rattle.std.proofs.lemmas.List.{append-nil}
use Rattle.oe_keeper.specs.declared.change.RowChange.{RowChange}
use Rattle.oe_journal.specs.declared.error.ReadError.{ReadError}
use Rattle.oe_journal.specs.declared.error.ReadError.TheVariants as errors
use Rattle.oe_journal.specs.Reading.{◌>>=◌, Fails, change_at, changes_within}

-- what was read before, and what is still read
abbrev pub with_front : List RowChange → Option (List RowChange) → Option (List RowChange)
with_front front read = read >>= λ cs. Some (front ++ cs)

regroup : (front : List RowChange) (c : RowChange) (read : Option (List RowChange)) → with_front front (read >>= λ cs. Some (c ∷ cs)) ≡ with_front (front ++ c ∷ []) read
regroup front c (Some cs) = ap (λ (l : List RowChange). Some l) (sym (append_assoc front (c ∷ []) cs))
regroup front c None = refl

step : (n : ℕ) (bytes : List ℕ) → 0 < length bytes → changes_within (suc n) bytes ≡ (change_at bytes >>= λ first. changes_within n first.1 >>= λ others. Some (first.0 ∷ others))
unfolding changes_within
step n [] some = absurd (omega arith)
step n (b ∷ rest) some = refl

pub goes_on : (front : List RowChange) (n m : ℕ) (bytes : List ℕ) (c : RowChange) (after : List ℕ) (total : Option (List RowChange)) → n ≡ suc m → 0 < length bytes → change_at bytes ≡ Some (c, after)
    → with_front front (changes_within n bytes) ≡ total → with_front (front ++ c ∷ []) (changes_within m after) ≡ total
goes_on front n m bytes c after total is some h so_far =
    sym (regroup front c (changes_within m after))
    ∙ ap (λ (r : Option (RowChange × List ℕ)). with_front front (r >>= λ first. changes_within m first.1 >>= λ others. Some (first.0 ∷ others))) (sym h)
    ∙ ap (with_front front) (sym (step m bytes some)) ∙ ap (λ (k : ℕ). with_front front (changes_within k bytes)) (sym is) ∙ so_far

pub fails : (e : ReadError) (front : List RowChange) (n m : ℕ) (bytes : List ℕ) (total : Option (List RowChange)) → n ≡ suc m → 0 < length bytes → Fails e (change_at bytes)
    → with_front front (changes_within n bytes) ≡ total → Fails e total
fails errors.Memory front n m bytes total is some h so_far = tt
fails errors.Malformed front n m bytes total is some h so_far =
    sym so_far ∙ ap (λ (k : ℕ). with_front front (changes_within k bytes)) is ∙ ap (with_front front) (step m bytes some)
    ∙ ap (λ (r : Option (RowChange × List ℕ)). with_front front (r >>= λ first. changes_within m first.1 >>= λ others. Some (first.0 ∷ others))) h

pub ends : (front : List RowChange) (n : ℕ) (bytes : List ℕ) (total : Option (List RowChange)) → length bytes ≡ 0 → with_front front (changes_within n bytes) ≡ total → total ≡ Some front
unfolding changes_within
ends front n [] total none so_far = sym so_far ∙ ap (λ (l : List RowChange). Some l) (append-nil front)
ends front n (b ∷ rest) total none so_far = absurd (omega arith)
