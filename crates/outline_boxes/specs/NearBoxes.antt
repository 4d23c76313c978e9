-- Boxes near the grid.
use Rattle.std.specs.Prelude.{◌^◌, ◌≤◌, unsigned_abs}
use Rattle.grid_exact.specs.declared.area.Area.{Area}

-- every side is near the grid
pub record IsNearBox (a : Area) : Type 0 where
  pub west : unsigned_abs a.x0 ≤ 2 ^ 26
  pub south : unsigned_abs a.y0 ≤ 2 ^ 26
  pub east : unsigned_abs a.x1 ≤ 2 ^ 26
  pub north : unsigned_abs a.y1 ≤ 2 ^ 26
