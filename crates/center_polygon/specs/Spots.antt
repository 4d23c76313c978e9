-- Positions of arc centers and of points.
use Rattle.std.specs.Prelude.{ℤ}
use Rattle.grid_exact.specs.declared.point.Point.{Point}

pub record Spot : Type 0 where
  pub x : ℤ
  pub y : ℤ

-- the position of a point of the grid
abbrev pub at : Point → Spot
at p = record { x = p.x; y = p.y }
