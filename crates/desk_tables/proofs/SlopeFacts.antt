-- The notice slope of an airport: its runway is one of the airport's, and its excess is small.
use Rattle.std.proofs.Common.{ℕ, ℤ, ◌<◌, ◌^◌, ◌≡◌, refl, Option, Some, None}
use Rattle.std.specs.Prelude.{IfSome, option_map, option_and_then}
use Rattle.std.specs.List.{All}
use Rattle.grid_exact.specs.declared.point.Point.{Point}
use Rattle.airfields.specs.Names.{IsRunwayName}
use Rattle.airfields.specs.declared.airfield.Airport.{Airport}
use Rattle.airfields.specs.declared.runway.Runway.{Runway}
use Rattle.desk_tables.specs.Names.{HasName}
use Rattle.runway_notice.specs.Distances.{is_at_least_root_of, is_above_root_of}
use Rattle.runway_notice.specs.Nearest.{distance_of, nearest}
use Rattle.runway_notice.specs.Notices.{slope_by, notice_slope}
use Rattle.runway_notice.specs.Surfaces.{is_in_range, run_to, slope_excess}
use Rattle.runway_notice.specs.declared.slope.Slope.{Slope}
use Rattle.runway_notice.proofs.NearestFacts.{kept, nearest_is}
use Rattle.desk_tables.proofs.Excesses.{IsSmall, found_small}

pub record IsToldSlope (s : Slope) : Type 0 where
  pub named : IsRunwayName s.runway
  pub small : s.excess < 2 ^ 32

slope_small : (a : Airport) (r : Runway) (x : Point) (top : ℤ) → IsSmall (slope_excess a r x top)
unfolding slope_excess
slope_small a r x top =
    found_small (is_in_range a r x) (λ z. is_above_root_of (distance_of x r) (run_to a r x z)) (λ z. is_at_least_root_of (distance_of x r) (run_to a r x z)) top

by_told : (a : Airport) (r : Runway) (x : Option ℕ) → HasName r → IsSmall x → IfSome (option_map (slope_by a r) x) IsToldSlope
by_told a r None named h = tt
by_told a r (Some e) named h = record { named = named; small = h }

nearest_told : (a : Airport) (x : Point) (top : ℤ) (o : Option Runway) → nearest a.runways x ≡ o → All HasName a.runways
    → IfSome (option_and_then (λ r. option_map (slope_by a r) (slope_excess a r x top)) o) IsToldSlope
nearest_told a x top None e all = tt
nearest_told a x top (Some r) e all =
    by_told a r (slope_excess a r x top) (kept HasName a.runways r all (nearest_is a.runways x r e).one_of) (slope_small a r x top)

pub notice_slope_told : (a : Airport) (x : Point) (top : ℤ) → All HasName a.runways → IfSome (notice_slope a x top) IsToldSlope
unfolding notice_slope
notice_slope_told a x top all = nearest_told a x top (nearest a.runways x) refl all
