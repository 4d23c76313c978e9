-- The squares that quarter the plane.
use Rattle.std.specs.Prelude.{◌≡◌, ℕ, ◌+◌, ◌≤◌, ℤ, pos, neg_ℤ, ◌+ℤ◌, ◌≤ℤ◌, ◌<ℤ◌, int_le, int_lt, nat_eq, nat_lt, Bool, ◌&&◌}
use Rattle.grid_exact.specs.declared.area.Area.{Area}
use Rattle.grid_exact.specs.declared.point.Point.{Point}
use Rattle.outline_boxes.specs.declared.bounds.TheConstants.{PLANE_LIMIT}
use Rattle.surface_tree.specs.declared.placed.Plot.{Plot}
use Rattle.surface_tree.specs.declared.square.TheConstants.{TOP_LEVEL}
use Rattle.surface_tree.specs.Levels.{side_of}

-- a square of the tree: its south-west corner, its side and its level
pub record IsSquare (west south side : ℤ) (level : ℕ) : Type 0 where
  pub not_deep : level ≤ TOP_LEVEL
  pub side_is : side ≡ pos (side_of level)
  pub west_in : neg_ℤ PLANE_LIMIT ≤ℤ west
  pub south_in : neg_ℤ PLANE_LIMIT ≤ℤ south
  pub east_in : (west +ℤ side) ≤ℤ PLANE_LIMIT
  pub north_in : (south +ℤ side) ≤ℤ PLANE_LIMIT

-- the closed interval from one end to the other meets the side that starts at low, which includes its low end and not its high one
abbrev pub meets : ℤ → ℕ → ℤ → ℤ → Bool
meets low side from to = int_lt from (low +ℤ pos side) && int_le low to

-- the box meets the square of this level with this south-west corner
abbrev pub overlaps : ℕ → ℤ → ℤ → Area → Bool
overlaps level west south area = meets west (side_of level) area.x0 area.x1 && meets south (side_of level) area.y0 area.y1

-- the square itself stores items with this plot
abbrev pub in_cell : ℕ → ℤ → ℤ → Plot → Bool
in_cell level west south plot = nat_eq plot.level level && overlaps level west south plot.area

-- the box of this plot meets the square of the second level, and the plot's own level is below the first
abbrev pub in_below : ℕ → ℕ → ℤ → ℤ → Plot → Bool
in_below below level west south plot = nat_lt plot.level below && overlaps level west south plot.area

-- the square or a part of it stores items with this plot
abbrev pub in_reach : ℕ → ℤ → ℤ → Plot → Bool
in_reach level west south plot = in_below (level + 1) level west south plot

-- the point lies in the square
pub record IsIn (level : ℕ) (west south : ℤ) (point : Point) : Type 0 where
  pub not_west : west ≤ℤ point.x
  pub not_east : point.x <ℤ (west +ℤ pos (side_of level))
  pub not_south : south ≤ℤ point.y
  pub not_north : point.y <ℤ (south +ℤ pos (side_of level))
