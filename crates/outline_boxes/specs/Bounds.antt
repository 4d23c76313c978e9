-- Areas and points in a compact form.
use Rattle.std.specs.Prelude.{◌≡◌, ◌≤ℤ◌, ℤ, neg_ℤ}
use Rattle.grid_exact.specs.declared.area.Area.{Area}
use Rattle.grid_exact.specs.declared.point.Point.{Point}
use Rattle.outline_boxes.specs.declared.bounds.Bounds.{Bounds}
use Rattle.outline_boxes.specs.declared.bounds.TheConstants.{PLANE_LIMIT}

-- no coordinate of the box is outside the plane
pub record IsInPlane (area : Area) : Type 0 where
  pub x0_low : neg_ℤ PLANE_LIMIT ≤ℤ area.x0
  pub x0_high : area.x0 ≤ℤ PLANE_LIMIT
  pub y0_low : neg_ℤ PLANE_LIMIT ≤ℤ area.y0
  pub y0_high : area.y0 ≤ℤ PLANE_LIMIT
  pub x1_low : neg_ℤ PLANE_LIMIT ≤ℤ area.x1
  pub x1_high : area.x1 ≤ℤ PLANE_LIMIT
  pub y1_low : neg_ℤ PLANE_LIMIT ≤ℤ area.y1
  pub y1_high : area.y1 ≤ℤ PLANE_LIMIT

-- the area that these bounds store; its high ends are stored negated
abbrev pub box_of : Bounds → Area
box_of b = record { x0 = b.x0; y0 = b.y0; x1 = neg_ℤ b.opposite_x1; y1 = neg_ℤ b.opposite_y1 }

-- these are the coordinates of the point, and their negatives
pub record IsSpot (x opposite_x y opposite_y : ℤ) (at : Point) : Type 0 where
  pub x_is : x ≡ at.x
  pub opposite_x_is : opposite_x ≡ neg_ℤ at.x
  pub y_is : y ≡ at.y
  pub opposite_y_is : opposite_y ≡ neg_ℤ at.y
