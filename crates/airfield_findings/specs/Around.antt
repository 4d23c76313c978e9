-- For proofs alone: boxes about points.
use Rattle.std.specs.Prelude.{ℤ, ◌+ℤ◌, ◌-ℤ◌}
use Rattle.grid_exact.specs.declared.area.Area.{Area}

-- the box from a whole point by r to each side
abbrev pub around_point : (x y r : ℤ) → Area
around_point x y r = record {
  x0 = x -ℤ r;
  y0 = y -ℤ r;
  x1 = x +ℤ r;
  y1 = y +ℤ r;
}
