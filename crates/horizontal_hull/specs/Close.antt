-- For proofs alone: bounds on the distances between the arcs of one airport and the points within them.
use Rattle.std.specs.Prelude.{ℕ, ℤ, pos, neg_ℤ, ◌+◌, ◌-ℤ◌, ◌≤◌, ◌<ℤ◌, ◌⊎◌, ◌^◌, List, unsigned_abs}
use Rattle.std.specs.List.{All}
use Rattle.grid_exact.specs.Area.{Has}
use Rattle.grid_exact.specs.declared.area.Area.{Area}
use Rattle.grid_exact.specs.declared.point.Point.{Point}
use Rattle.horizontal_hull.specs.declared.edge.Edge.{Edge}
use Rattle.horizontal_hull.specs.Arcs.{ArcShape}
use Rattle.horizontal_hull.specs.Within.{Within}
use Rattle.horizontal_hull.specs.declared.sizes.TheConstants.{ARC_MOST, BOX_REACH, CENTERS_APART, CENTER_REACH, CONICAL_RUN, POINT_APART}

-- an arc of an airport with this reference point
pub record IsNearReference (arp : Point) (a : ArcShape) : Type 0 where
  pub x : unsigned_abs (a.x -ℤ arp.x) ≤ CENTER_REACH
  pub y : unsigned_abs (a.y -ℤ arp.y) ≤ CENTER_REACH
  pub radius : a.radius ≤ ARC_MOST

-- arcs of one airport, and a point that its surfaces can reach
pub record AreClose (arcs : List ArcShape) (x : Point) : Type 0 where
  pub arp : Point
  pub near : All (IsNearReference arp) arcs
  pub x_size : unsigned_abs (x.x -ℤ arp.x) ≤ BOX_REACH
  pub y_size : unsigned_abs (x.y -ℤ arp.y) ≤ BOX_REACH

-- a box that contains each point of the grid that a surface of the arcs covers, and no point that is not close to them
pub record IsOuter (arcs : List ArcShape) (box : Area) : Type 0 where
  pub close : (x : Point) → Has box x → AreClose arcs x
  pub all : (edge : Edge) (x : Point) (c : ℕ) → c ≤ CONICAL_RUN → Within edge arcs x c → Has box x

-- the parts of a hull: arcs, their outer box, and a bounded level
pub record IsHull (arcs : List ArcShape) (box : Area) (level : ℤ) : Type 0 where
  pub outer : IsOuter arcs box
  pub level_size : unsigned_abs level ≤ 2 ^ 18

-- two arcs of one airport, and a point near them
pub record IsNearBoth (a b : ArcShape) (x : Point) : Type 0 where
  pub way_x : unsigned_abs (b.x -ℤ a.x) ≤ CENTERS_APART
  pub way_y : unsigned_abs (b.y -ℤ a.y) ≤ CENTERS_APART
  pub first_x : unsigned_abs (x.x -ℤ a.x) ≤ POINT_APART
  pub first_y : unsigned_abs (x.y -ℤ a.y) ≤ POINT_APART
  pub second_x : unsigned_abs (x.x -ℤ b.x) ≤ POINT_APART
  pub second_y : unsigned_abs (x.y -ℤ b.y) ≤ POINT_APART
  pub first_radius : a.radius ≤ ARC_MOST
  pub second_radius : b.radius ≤ ARC_MOST

-- both discs of two arcs, with radii raised by c, lie west of a point, or both east, south or north of it
abbrev pub IsBeside : ArcShape → ArcShape → Point → ℕ → Type 0
IsBeside a b x c =
    (((pos (a.radius + c) <ℤ (x.x -ℤ a.x)) × (pos (b.radius + c) <ℤ (x.x -ℤ b.x)))
    ⊎ (((x.x -ℤ a.x) <ℤ neg_ℤ (pos (a.radius + c))) × ((x.x -ℤ b.x) <ℤ neg_ℤ (pos (b.radius + c)))))
    ⊎ (((pos (a.radius + c) <ℤ (x.y -ℤ a.y)) × (pos (b.radius + c) <ℤ (x.y -ℤ b.y)))
    ⊎ (((x.y -ℤ a.y) <ℤ neg_ℤ (pos (a.radius + c))) × ((x.y -ℤ b.y) <ℤ neg_ℤ (pos (b.radius + c)))))
