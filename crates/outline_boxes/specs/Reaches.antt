-- For proofs alone: the extent of the corners of an outline in one direction.
use Rattle.std.specs.Prelude.{ℕ, ℤ, pos, ◌+ℤ◌, ◌*ℤ◌, ◌≤ℤ◌, ◌≡◌}
use Rattle.grid_exact.specs.Root.{AtMostRoot}
use Rattle.grid_exact.specs.Lines.{square}
use Rattle.outline_boxes.specs.Rectangles.{Rectangle}
use Rattle.outline_boxes.specs.Trapezoids.{Trapezoid}
use Rattle.outline_boxes.specs.declared.edges.Edges.{Edges}

-- z is the least whole number at or past the corner with this part
pub record IsLeastPast (e : Edges) (part z : ℤ) : Type 0 where
  pub at : AtMostRoot part (e.scale *ℤ z) e.square
  pub least : (y : ℤ) → AtMostRoot part (e.scale *ℤ y) e.square → z ≤ℤ y

-- z is past the farthest corners in the direction of a coordinate; the line's vector has the component `toward` in that direction, and
-- the other component has the size `across`
pub record IsPast (e : Edges) (toward : ℤ) (across : ℕ) (z : ℤ) : Type 0 where
  pub near_edge : AtMostRoot (e.near *ℤ pos across) (e.scale *ℤ z) e.square
  pub far_edge : AtMostRoot (e.ahead *ℤ toward +ℤ e.far *ℤ pos across) (e.scale *ℤ z) e.square

-- z is the least whole number for which this holds
pub record IsReach (e : Edges) (toward : ℤ) (across : ℕ) (z : ℤ) : Type 0 where
  pub past : IsPast e toward across z
  pub least : (y : ℤ) → IsPast e toward across y → z ≤ℤ y

-- the edges of a trapezoid, and the edges of a rectangle, which are both at its start
pub record AreTrapezoidEdges (t : Trapezoid) (e : Edges) : Type 0 where
  pub scale_is : e.scale ≡ t.scale
  pub ahead_is : e.ahead ≡ t.scale *ℤ t.length
  pub near_is : e.near ≡ t.near
  pub far_is : e.far ≡ t.far
  pub square_is : e.square ≡ square t.line

pub record AreRectangleEdges (r : Rectangle) (e : Edges) : Type 0 where
  pub scale_is : e.scale ≡ r.scale
  pub ahead_is : e.ahead ≡ pos 0
  pub near_is : e.near ≡ r.half
  pub far_is : e.far ≡ r.half
  pub square_is : e.square ≡ square r.line
