-- For proofs alone: a plot east of the grid.
use Rattle.std.specs.Prelude.{◌≡◌, pos, ◌-ℤ◌}
use Rattle.grid_exact.specs.declared.point.Point.{Point}
use Rattle.outline_boxes.specs.declared.bounds.TheConstants.{PLANE_LIMIT}
use Rattle.surface_tree.specs.declared.placed.Plot.{Plot}
use Rattle.airfield_findings.specs.declared.plots.TheConstants.{SMALL_LEVEL, SMALL_SIDE}

-- it has the height of the point, and the width of the squares that hold it
pub record IsBeside (p : Point) (plot : Plot) : Type 0 where
  pub west : plot.area.x0 ≡ PLANE_LIMIT -ℤ SMALL_SIDE
  pub south : plot.area.y0 ≡ p.y
  pub east : plot.area.x1 ≡ PLANE_LIMIT -ℤ pos 1
  pub north : plot.area.y1 ≡ p.y
  pub level : plot.level ≡ SMALL_LEVEL
