-- Rectangles about a line, from its start to its end.
use Rattle.std.specs.Prelude.{ℤ, pos, neg_ℤ, ◌+ℤ◌, ◌*ℤ◌, ◌≤ℤ◌}
use Rattle.grid_exact.specs.Root.{AtMostRoot}
use Rattle.grid_exact.specs.Lines.{Line, Offset}
use Rattle.grid_exact.specs.declared.area.Area.{Area}
use Rattle.outline_boxes.specs.Boxes.{shrunk}
use Rattle.outline_boxes.specs.Corners.{HasCorner, corner}

-- `half` is the extent to each side of the line, times the scale: with scale 2, `half` is the whole width
pub record Rectangle : Type 0 where
  pub line : Line
  pub scale : ℤ
  pub half : ℤ

-- the box contains the four corners
pub record HasRectangle (r : Rectangle) (a : Area) : Type 0 where
  pub start_left : HasCorner a (corner r.line r.scale r.line.x r.line.y (pos 0) r.half)
  pub start_right : HasCorner a (corner r.line r.scale r.line.x r.line.y (pos 0) (neg_ℤ r.half))
  pub end_left : HasCorner a (corner r.line r.scale (r.line.x +ℤ r.line.dx) (r.line.y +ℤ r.line.dy) (pos 0) r.half)
  pub end_right : HasCorner a (corner r.line r.scale (r.line.x +ℤ r.line.dx) (r.line.y +ℤ r.line.dy) (pos 0) (neg_ℤ r.half))

-- the box contains the corners with a margin on each side
abbrev pub HasRectangleWithin : Rectangle → (margin : ℤ) → Area → Type 0
HasRectangleWithin r margin a = HasRectangle r (shrunk a margin)

-- a point with this offset from the line lies on the rectangle
pub record OnRectangle (r : Rectangle) (o : Offset) : Type 0 where
  pub past_start : pos 0 ≤ℤ o.along
  pub before_end : o.along ≤ℤ pos o.square
  pub not_beside : AtMostRoot (r.scale *ℤ pos o.aside) r.half o.square
