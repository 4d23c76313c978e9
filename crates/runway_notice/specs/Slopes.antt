-- The slopes of 77.9(b)(1) and (2).
use Rattle.std.specs.Prelude.{ℤ, List, if◌then◌else◌}
use Rattle.std.specs.List.{list_any}
use Rattle.airfields.specs.Runways.{is_long}
use Rattle.airfields.specs.declared.runway.Runway.{Runway}
use Rattle.runway_notice.specs.declared.slope.TheConstants.{RANGE_B1, RANGE_B2, RATIO_B1, RATIO_B2}
use Rattle.runway_notice.specs.declared.slope.Sub.{Sub}
use Rattle.runway_notice.specs.declared.slope.Sub.TheVariants.{B1, B2}

-- (1) is for an airport with a runway longer than 3,200 feet, (2) for an airport without one
abbrev pub sub_of : List Runway → Sub
sub_of runways = if list_any is_long runways then B1 else B2

-- a horizontal distance of 20,000 feet, or of 10,000
abbrev pub range_of : Sub → ℤ
range_of B1 = RANGE_B1
range_of B2 = RANGE_B2

-- 100 to 1, or 50 to 1
abbrev pub ratio_of : Sub → ℤ
ratio_of B1 = RATIO_B1
ratio_of B2 = RATIO_B2
