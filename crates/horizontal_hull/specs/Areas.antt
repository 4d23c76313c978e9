-- The least boxes of the horizontal and the conical surface of an airport: 77.19(a), (b).
use Rattle.std.specs.Prelude.{ℕ, pos, ◌+◌, ◌+ℤ◌, ◌-ℤ◌, ◌≢◌, List}
use Rattle.std.specs.List.{All}
use Rattle.grid_exact.specs.Area.{Has}
use Rattle.grid_exact.specs.declared.area.Area.{Area}
use Rattle.grid_exact.specs.declared.cap.Cap.{Cap}
use Rattle.grid_exact.specs.declared.cap.Cap.TheVariants.{Beyond}
use Rattle.grid_exact.specs.declared.point.Point.{Point}
use Rattle.outline_boxes.specs.Boxes.{Encloses, IsLeastBox}
use Rattle.horizontal_hull.specs.declared.areas.HullAreas.{HullAreas}
use Rattle.horizontal_hull.specs.declared.edge.Edge.TheVariants.{Closed}
use Rattle.horizontal_hull.specs.declared.sizes.TheConstants.{CONICAL_RUN}
use Rattle.horizontal_hull.specs.Arcs.{ArcShape, Dome}
use Rattle.horizontal_hull.specs.Within.{IsCap, Within}

-- the box of the disc about an arc's center, its radius raised by c; it touches the disc on each side
abbrev pub disc_box : ℕ → ArcShape → Area
disc_box c a = record {
  x0 = a.x -ℤ pos (a.radius + c);
  y0 = a.y -ℤ pos (a.radius + c);
  x1 = a.x +ℤ pos (a.radius + c);
  y1 = a.y +ℤ pos (a.radius + c);
}

-- a box contains the discs about the centers of arcs, with radii raised by c
abbrev pub HoldsDiscs : List ArcShape → ℕ → Area → Type 0
HoldsDiscs arcs c box = All (λ a. Encloses box (disc_box c a)) arcs

-- the boxes of both surfaces: arcs joined by their tangents extend no farther than the arcs themselves
pub record AreHullAreas (arcs : List ArcShape) (a : HullAreas) : Type 0 where
  pub horizontal_least : IsLeastBox (HoldsDiscs arcs 0) a.horizontal
  pub conical_least : IsLeastBox (HoldsDiscs arcs CONICAL_RUN) a.conical

-- the first contains every point that the horizontal surface covers, and the second every point that either surface covers
pub record CoverHull (d : Dome) (a : HullAreas) : Type 0 where
  pub horizontal_has : (x : Point) → Within Closed d.arcs x 0 → Has a.horizontal x
  pub conical_has : (x : Point) → Within Closed d.arcs x CONICAL_RUN → Has a.conical x
  pub cap_has : (x : Point) (cap : Cap) → IsCap d x cap → cap ≢ Beyond → Has a.conical x
