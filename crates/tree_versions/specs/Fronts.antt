-- Fronts, the values that they lead to, and what a publisher and a seat show.
use Rattle.std.specs.Prelude.{◌≡◌, List, [], ◌∷◌, map, Option, Some, None}

-- the entries lead from the value v to the value w, each by one step
abbrev pub Reaches : {V E : Type 0} → (V → E → V → Type 0) → V → List E → V → Type 0
Reaches follows v [] w = v ≡ w
Reaches {V} follows v (e ∷ es) w = (u : V) × follows v e u × Reaches follows u es w

-- the same from the first value, where there is one
abbrev pub ReachedFrom : {V E : Type 0} → (V → E → V → Type 0) → Option V → List E → V → Type 0
ReachedFrom follows None es w = Unit {0}
ReachedFrom follows (Some v) es w = Reaches follows v es w

-- the entries of offered pairs
abbrev pub entries_of : {V E : Type 0} → List (E × V) → List E
entries_of pairs = map (λ p. p.0) pairs

-- the last value of these pairs, or v where there is none
abbrev pub last_of : {V E : Type 0} → V → List (E × V) → V
last_of v [] = v
last_of v (p ∷ ps) = last_of p.1 ps

-- a publisher: the published value, the entries that lead to it, and the pairs that are offered and wait
pub record Edition (V E : Type 0) : Type 0 where
  pub value : V
  pub published : List E
  pub waiting : List (E × V)

-- a seat: the front that it had last, and the longest one that it had or was told
pub record Sight (E : Type 0) : Type 0 where
  pub front : List E
  pub told : List E
