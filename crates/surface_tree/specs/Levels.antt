-- The sizes of boxes, and of the squares that hold them.
use Rattle.std.specs.Prelude.{◌≤◌, ℕ, zero, suc, ◌+◌, ℤ, pos, neg_ℤ, ◌-ℤ◌, ◌≤ℤ◌, ◌<ℤ◌, int_le, int_lt, if◌then◌else◌}
use Rattle.grid_exact.specs.declared.area.Area.{Area}
use Rattle.outline_boxes.specs.declared.bounds.TheConstants.{PLANE_LIMIT}
use Rattle.surface_tree.specs.declared.placed.Plot.{Plot}
use Rattle.surface_tree.specs.declared.square.TheConstants.{TOP_LEVEL}

-- the side of a square: 2^12 tenths of a foot at level 0, and twice that of the level below
abbrev pub side_of : ℕ → ℕ
side_of zero = 4096
side_of (suc level) = side_of level + side_of level

-- the least level up to this one whose side is at least the extent, or this one
abbrev pub level_up_to : ℕ → ℤ → ℕ
level_up_to zero extent = zero
level_up_to (suc level) extent = if int_lt (pos (side_of level)) extent then suc level else level_up_to level extent

-- the greater of two
abbrev pub greater : ℤ → ℤ → ℤ
greater a b = if int_le a b then b else a

-- the level of a box's size: the least one, of sides from 2^12 to 2^26, whose side is at least the larger extent
unfoldable pub level_of : Area → ℕ
level_of area = level_up_to TOP_LEVEL (greater (area.x1 -ℤ area.x0) (area.y1 -ℤ area.y0))

-- the area has its ends in order and lies in the plane of the tree, and the squares that hold it are no larger than its size
pub record IsPlaced (plot : Plot) : Type 0 where
  pub along : plot.area.x0 ≤ℤ plot.area.x1
  pub up : plot.area.y0 ≤ℤ plot.area.y1
  pub west : neg_ℤ PLANE_LIMIT ≤ℤ plot.area.x0
  pub south : neg_ℤ PLANE_LIMIT ≤ℤ plot.area.y0
  pub east : plot.area.x1 <ℤ PLANE_LIMIT
  pub north : plot.area.y1 <ℤ PLANE_LIMIT
  pub level_most : plot.level ≤ level_of plot.area

-- a plot that a change can use: it lies in the plane, and its squares are of an existing level
pub record IsEdit (plot : Plot) : Type 0 where
  pub placed : IsPlaced plot
  pub not_deep : plot.level ≤ TOP_LEVEL
