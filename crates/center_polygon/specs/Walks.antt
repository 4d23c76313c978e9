-- For proofs alone: walks round some spots, from corner to corner, with all of them on the left.
use Rattle.std.specs.Prelude.{pos, List, [], ◌∷◌, Bool, true, false, ◌&&◌, int_le, int_lt, IsTrue}
use Rattle.std.specs.Ordering.{int_eq}
use Rattle.std.specs.List.{list_all, list_any}
use Rattle.center_polygon.specs.Spots.{Spot}
use Rattle.center_polygon.specs.Triangles.{turn}

-- from this corner on, a spot is outside no edge; the last edge leads back to the first corner
abbrev pub keeps_left : Spot → Spot → Spot → List Spot → Bool
keeps_left x first corner [] = int_le (pos 0) (turn x corner first)
keeps_left x first corner (next ∷ rest) = int_le (pos 0) (turn x corner next) && keeps_left x first next rest

-- seen from the first corner, each further one lies to the left of the one before it
abbrev pub turns_on : Spot → Spot → List Spot → Bool
turns_on first corner [] = true
turns_on first corner (next ∷ rest) = int_lt (pos 0) (turn first corner next) && turns_on first next rest

-- at least three corners, each further left than the one before
abbrev pub is_fan : Spot → List Spot → Bool
is_fan first [] = false
is_fan first (second ∷ []) = false
is_fan first (second ∷ third ∷ rest) = turns_on first second (third ∷ rest)

abbrev pub is_spot : Spot → Spot → Bool
is_spot a b = int_eq a.x b.x && int_eq a.y b.y

abbrev pub is_among : List Spot → Spot → Bool
is_among spots a = list_any (is_spot a) spots

-- the corners are among the spots, no spot is outside an edge, and each corner lies further left than the one before
pub record IsRound (spots : List Spot) (first : Spot) (rest : List Spot) : Type 0 where
  pub first_is : IsTrue (is_among spots first)
  pub rest_are : IsTrue (list_all (is_among spots) rest)
  pub holds : IsTrue (list_all (λ c. keeps_left c first first rest) spots)
  pub fan : IsTrue (is_fan first rest)
