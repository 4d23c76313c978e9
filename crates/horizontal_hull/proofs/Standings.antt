-- Where a point stands says of which surfaces there is no excess at it.
use Rattle.std.proofs.Common.{None, ℤ, arith}
use Rattle.grid_exact.specs.declared.point.Point.{Point}
use Rattle.grid_exact.specs.Excess.{IsExcess}
use Rattle.horizontal_hull.specs.declared.edge.Edge.TheVariants.{Closed}
use Rattle.horizontal_hull.specs.declared.sizes.TheConstants.{CONICAL_RUN}
use Rattle.horizontal_hull.specs.Arcs.{Dome}
use Rattle.horizontal_hull.specs.Within.{Within, horizontal}
use Rattle.horizontal_hull.proofs.Grows.{Within_grows}

pub beyond_none : (d : Dome) (x : Point) (top : ℤ) → (Within Closed d.arcs x CONICAL_RUN → ⊥) → IsExcess (horizontal d x) top None
beyond_none d x top n = λ p. n (Within_grows Closed d.arcs x 0 CONICAL_RUN (omega arith) p.0)
