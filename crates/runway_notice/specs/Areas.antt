-- For proofs alone: points out of reach of every slope from the runways of an airport.
use Rattle.std.specs.Prelude.{Bool, ◌||◌, nat_lt}
use Rattle.grid_exact.specs.declared.point.Point.{Point}
use Rattle.airfields.specs.Runways.{distance_apart}
use Rattle.runway_notice.specs.declared.notice.TheConstants.{SLOPE_REACH}

-- the point is farther from the reference point in a coordinate than any slope from the runways reaches
abbrev pub is_far : Point → Point → Bool
is_far arp x = nat_lt SLOPE_REACH (distance_apart x.x arp.x) || nat_lt SLOPE_REACH (distance_apart x.y arp.y)
