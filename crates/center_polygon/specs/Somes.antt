-- Predicates of any one, any two and any three elements of a list, in list order.
use Rattle.std.specs.Prelude.{List, [], ◌∷◌, ◌⊎◌, Bool, false, ◌||◌}
use Rattle.std.specs.List.{list_any}

abbrev pub SomeOne : {A : Type 0} → (A → Type 0) → List A → Type 0
SomeOne P [] = ⊥
SomeOne P (a ∷ xs) = P a ⊎ SomeOne P xs

abbrev pub SomeTwo : {A : Type 0} → (A → A → Type 0) → List A → Type 0
SomeTwo P [] = ⊥
SomeTwo P (a ∷ xs) = SomeOne (P a) xs ⊎ SomeTwo P xs

abbrev pub SomeThree : {A : Type 0} → (A → A → A → Type 0) → List A → Type 0
SomeThree P [] = ⊥
SomeThree P (a ∷ xs) = SomeTwo (P a) xs ⊎ SomeThree P xs

-- ---- the same predicates as tests that compute

abbrev pub some_two : {A : Type 0} → (A → A → Bool) → List A → Bool
some_two p [] = false
some_two p (a ∷ xs) = list_any (p a) xs || some_two p xs

abbrev pub some_three : {A : Type 0} → (A → A → A → Bool) → List A → Bool
some_three p [] = false
some_three p (a ∷ xs) = some_two (p a) xs || some_three p xs
