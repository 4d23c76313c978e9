-- Trapezoids about a line, from its start over a given length.
use Rattle.std.specs.Prelude.{ℤ, pos, neg_ℤ, ◌-ℤ◌, ◌*ℤ◌, ◌≤ℤ◌}
use Rattle.grid_exact.specs.Root.{AtMostRoot}
use Rattle.grid_exact.specs.Lines.{Line, Offset}
use Rattle.grid_exact.specs.declared.area.Area.{Area}
use Rattle.outline_boxes.specs.Boxes.{Encloses}
use Rattle.outline_boxes.specs.Corners.{HasCorner, corner}

-- `near` and `far` are the extents to each side of the line at its start and at its far end, times the scale
pub record Trapezoid : Type 0 where
  pub line : Line
  pub scale : ℤ
  pub near : ℤ
  pub far : ℤ
  pub length : ℤ

-- the box contains the four corners
pub record HasTrapezoid (t : Trapezoid) (a : Area) : Type 0 where
  pub near_left : HasCorner a (corner t.line t.scale t.line.x t.line.y (pos 0) t.near)
  pub near_right : HasCorner a (corner t.line t.scale t.line.x t.line.y (pos 0) (neg_ℤ t.near))
  pub far_left : HasCorner a (corner t.line t.scale t.line.x t.line.y (t.scale *ℤ t.length) t.far)
  pub far_right : HasCorner a (corner t.line t.scale t.line.x t.line.y (t.scale *ℤ t.length) (neg_ℤ t.far))

-- the box contains the held box and the four corners
pub record HasBoxAndTrapezoid (held : Area) (t : Trapezoid) (a : Area) : Type 0 where
  pub box : Encloses a held
  pub corners : HasTrapezoid t a

-- a point with this offset from the line lies on the trapezoid: at distance d from the start its half width is
-- near + (far - near) * d / length, stated multiplied by the length
pub record OnTrapezoid (t : Trapezoid) (o : Offset) : Type 0 where
  pub ahead : pos 0 ≤ℤ o.along
  pub not_past : AtMostRoot o.along t.length o.square
  pub not_beside : AtMostRoot (t.length *ℤ (t.scale *ℤ pos o.aside) -ℤ (t.far -ℤ t.near) *ℤ o.along) (t.length *ℤ t.near) o.square
