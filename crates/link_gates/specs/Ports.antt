-- What ports and gates tell.
use Rattle.std.specs.Prelude.{◌≡◌, List, [], ◌∷◌, ◌++◌, Option, Some, None, option_map}

-- these, and then the ones that are told
abbrev pub ahead : {A : Type 0} → List A → Option (List A) → Option (List A)
ahead xs told = option_map (λ ys. xs ++ ys) told

-- the ones that are told, and then these
abbrev pub behind : {A : Type 0} → Option (List A) → List A → Option (List A)
behind told xs = option_map (λ ys. ys ++ xs) told

-- none is told
abbrev pub NoneLeft : {A : Type 0} → Option (List A) → Type 0
NoneLeft None = Unit {0}
NoneLeft (Some xs) = xs ≡ []

-- a new port takes the first list of its gate; where there is none it has no links
abbrev pub TakesList : {A : Type 0} → Option (List (List A)) → Option (List (List A)) → Option (List A) → Type 0
TakesList None after links = Unit {0}
TakesList (Some []) after links = (after ≡ Some []) × (links ≡ Some [])
TakesList (Some (xs ∷ lists)) after links = (after ≡ Some lists) × (links ≡ Some xs)
