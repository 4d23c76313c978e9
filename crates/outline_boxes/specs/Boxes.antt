-- The least whole box around an outline.
use Rattle.std.specs.Prelude.{ℤ, ◌+ℤ◌, ◌-ℤ◌, ◌≤ℤ◌}
use Rattle.grid_exact.specs.declared.area.Area.{Area}

-- the inner box lies in the outer one
pub record Encloses (outer inner : Area) : Type 0 where
  pub west : outer.x0 ≤ℤ inner.x0
  pub south : outer.y0 ≤ℤ inner.y0
  pub east : inner.x1 ≤ℤ outer.x1
  pub north : inner.y1 ≤ℤ outer.y1

-- a whole box that contains the outline, and lies in every other whole box that does
pub record IsLeastBox (Holds : Area → Type 0) (box : Area) : Type 0 where
  pub holds : Holds box
  pub least : (other : Area) → Holds other → Encloses other box

-- a box with each side moved inward by a margin: the margin-free part of a box that contains an outline with a margin
abbrev pub shrunk : Area → ℤ → Area
shrunk a margin = record {
  x0 = a.x0 +ℤ margin;
  y0 = a.y0 +ℤ margin;
  x1 = a.x1 -ℤ margin;
  y1 = a.y1 -ℤ margin;
}

-- the box contains both boxes
pub record HoldsBoth (a b box : Area) : Type 0 where
  pub first : Encloses box a
  pub second : Encloses box b
