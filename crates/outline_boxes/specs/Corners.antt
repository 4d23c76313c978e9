-- Corners of rotated outlines, whose coordinates have a square root, and whole boxes that contain them.
use Rattle.std.specs.Prelude.{ℕ, ℤ, ◌-ℤ◌, ◌*ℤ◌, neg_ℤ}
use Rattle.grid_exact.specs.Root.{AtLeastRoot, AtMostRoot}
use Rattle.grid_exact.specs.Lines.{Line, square}
use Rattle.grid_exact.specs.declared.area.Area.{Area}

-- the coordinate base + part / (scale * sqrt(square))
pub record Coordinate : Type 0 where
  pub base : ℤ
  pub part : ℤ
  pub scale : ℤ
  pub square : ℕ

-- it is at most z, and at least z
abbrev pub IsUpTo : Coordinate → ℤ → Type 0
IsUpTo c z = AtMostRoot c.part (c.scale *ℤ (z -ℤ c.base)) c.square

abbrev pub IsFrom : Coordinate → ℤ → Type 0
IsFrom c z = AtLeastRoot c.part (c.scale *ℤ (z -ℤ c.base)) c.square

pub record Corner : Type 0 where
  pub x : Coordinate
  pub y : Coordinate

-- the closed box contains the corner
pub record HasCorner (a : Area) (c : Corner) : Type 0 where
  pub west : IsFrom c.x a.x0
  pub east : IsUpTo c.x a.x1
  pub south : IsFrom c.y a.y0
  pub north : IsUpTo c.y a.y1

-- the corner `ahead` along the line from the whole point (x, y) and `left` to its left, both lengths times the scale
abbrev pub corner : Line → (scale x y ahead left : ℤ) → Corner
corner l scale x y ahead left = record {
  x = record { base = x; part = ahead *ℤ l.dx -ℤ left *ℤ l.dy; scale = scale; square = square l };
  y = record { base = y; part = ahead *ℤ l.dy -ℤ neg_ℤ left *ℤ l.dx; scale = scale; square = square l };
}
