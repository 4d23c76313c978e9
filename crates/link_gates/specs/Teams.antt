-- How many links workers serve.
use Rattle.std.specs.Prelude.{ℕ, zero, suc, ◌+◌, min, take, List, [], ◌∷◌, length, Option, Some, None, option_map}
use Rattle.std.specs.List.{sum_by}

-- all these together, where each is told
abbrev pub together : List (Option ℕ) → Option ℕ
together [] = Some 0
together (None ∷ rest) = None
together (Some n ∷ rest) = option_map (λ more. n + more) (together rest)

-- how many of some links are served in so many turns, where the links are told
abbrev pub served_in : {A : Type 0} → ℕ → Option (List A) → Option ℕ
served_in turns links = option_map (λ xs. min turns (length xs)) links

-- the links of so many ports: the first lists, and then none
abbrev pub first_lists : {A : Type 0} → ℕ → List (List A) → List (List A)
first_lists zero lists = []
first_lists (suc more) [] = [] ∷ first_lists more []
first_lists (suc more) (xs ∷ lists) = xs ∷ first_lists more lists

-- how many links workers serve, one for each of the first lists
abbrev pub served_of : {A : Type 0} → ℕ → ℕ → List (List A) → ℕ
served_of workers turns lists = sum_by (λ xs. min turns (length xs)) (take workers lists)
