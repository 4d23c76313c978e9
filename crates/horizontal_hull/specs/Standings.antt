-- The surface of an airport that covers a point, horizontal, conical or neither: 77.19(a), (b).
use Rattle.grid_exact.specs.declared.point.Point.{Point}
use Rattle.horizontal_hull.specs.declared.edge.Edge.TheVariants.{Closed}
use Rattle.horizontal_hull.specs.declared.sizes.TheConstants.{CONICAL_RUN}
use Rattle.horizontal_hull.specs.declared.standing.Standing.{Standing}
use Rattle.horizontal_hull.specs.declared.standing.Standing.TheVariants.{Horizontal, Conical, Beyond}
use Rattle.horizontal_hull.specs.Arcs.{Dome}
use Rattle.horizontal_hull.specs.Within.{ConicalCovers, IsLeastConical, Within}

-- the point is under the horizontal surface, or under the conical one with this least level, or outside both
abbrev pub IsStanding : Dome → Point → Standing → Type 0
IsStanding d x Horizontal = Within Closed d.arcs x 0
IsStanding d x (Conical level) = ConicalCovers d x × IsLeastConical d x level
IsStanding d x Beyond = ¬ Within Closed d.arcs x CONICAL_RUN
