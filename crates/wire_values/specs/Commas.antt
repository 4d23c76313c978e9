-- The fields of a canonical line.
use Rattle.std.specs.Prelude.{ℕ, List, [], ◌∷◌, ◌++◌, codes}
use Rattle.std.specs.List.{flat_map}

-- a comma before each field
abbrev pub with_commas : List (List ℕ) → List ℕ
with_commas fields = flat_map (λ f. codes "," ++ f) fields

-- the fields, with commas between them
abbrev pub joined : List (List ℕ) → List ℕ
joined [] = []
joined (field ∷ more) = field ++ with_commas more
