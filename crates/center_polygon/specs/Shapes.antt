-- For proofs alone: the stored form of a polygon.
use Rattle.std.specs.Prelude.{List}
use Rattle.grid_exact.specs.declared.point.Point.{Point}
use Rattle.center_polygon.specs.Spots.{Spot}
use Rattle.center_polygon.specs.Triangles.{InSomeTriangle}
use Rattle.center_polygon.specs.Walks.{IsRound}
use Rattle.center_polygon.specs.declared.polygon.Shape.{Shape}
use Rattle.center_polygon.specs.declared.polygon.Shape.TheVariants.{Flat, Round, Loose}

abbrev pub IsShape : List Spot → Shape → Type 0
IsShape spots Flat = (x : Point) → InSomeTriangle spots x → ⊥
IsShape spots (Round w) = IsRound spots w.first w.rest.items
IsShape spots Loose = Unit {0}
