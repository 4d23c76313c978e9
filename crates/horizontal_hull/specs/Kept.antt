-- For proofs alone: the stored form of an airport's arcs.
use Rattle.std.specs.Prelude.{◌≡◌, List, [], length}
use Rattle.horizontal_hull.specs.declared.arcs.Kept.{Kept}
use Rattle.horizontal_hull.specs.declared.arcs.Kept.TheVariants.{Absent, Pair, Many}
use Rattle.horizontal_hull.specs.Arcs.{ArcShape}

-- the arcs
abbrev pub shapes_of : Kept → List ArcShape
shapes_of Absent = []
shapes_of (Pair pair) = pair
shapes_of (Many several) = several.value

-- one runway has two arcs
abbrev pub IsKept : Kept → Type 0
IsKept Absent = Unit {0}
IsKept (Pair pair) = length pair ≡ 2
IsKept (Many several) = Unit {0}
