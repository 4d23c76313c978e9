-- The lines of a table, one after the other.
use Rattle.std.proofs.Common.{ℕ, ◌≡◌, ◌<◌, ◌+◌, List, [], ◌∷◌, ◌++◌, take, length, get_or, Some, sym, ◌∙◌, ap}
use Rattle.std.specs.Prelude.{slice_get}
use Rattle.std.specs.List.{flat_map}
use Rattle.std.proofs.lemmas.List.{flat_map_more, take_more}
use Rattle.std.proofs.lemmas.Option.{slice_get_within, get_or_from_slice_get}

-- one line more, of the item x at place i
pub line_more : {X : Type 0} (line : X → List ℕ) (head old new : List ℕ) (xs : List X) (i : ℕ) (x : X) → i < length xs → x ≡ get_or xs i x
    → old ≡ head ++ flat_map line (take i xs) → new ≡ old ++ line x → new ≡ head ++ flat_map line (take (i + 1) xs)
line_more line head old new xs i x l e before added =
    let t : take (i + 1) xs ≡ take i xs ++ x ∷ [] = take_more xs i x l ∙ ap (λ y. take i xs ++ y ∷ []) (sym e) in
    added ∙ ap (λ text. text ++ line x) before ∙ flat_map_more line head (take i xs) x ∙ ap (λ ys. head ++ flat_map line ys) (sym t)

-- the same of the item that is read there
pub line_of_read : {X : Type 0} (line : X → List ℕ) (head old new : List ℕ) (xs : List X) (i : ℕ) (x : X) → slice_get xs i ≡ Some x
    → old ≡ head ++ flat_map line (take i xs) → new ≡ old ++ line x → new ≡ head ++ flat_map line (take (i + 1) xs)
line_of_read line head old new xs i x e = line_more line head old new xs i x (slice_get_within xs i x e) (sym (get_or_from_slice_get xs i x x e))
