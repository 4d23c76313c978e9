-- Notice by the slope from the nearest runway of an airport: 77.9(b)(1) and (2).
use Rattle.std.specs.Prelude.{ℕ, ℤ, ◌≡◌, Option, Some, None, option_map, option_and_then}
use Rattle.grid_exact.specs.Excess.{ExceedsBy, IsExcess}
use Rattle.grid_exact.specs.declared.point.Point.{Point}
use Rattle.airfields.specs.declared.airfield.Airport.{Airport}
use Rattle.airfields.specs.declared.runway.Runway.{Runway}
use Rattle.runway_notice.specs.Nearest.{IsNearest, nearest}
use Rattle.runway_notice.specs.Slopes.{sub_of}
use Rattle.runway_notice.specs.Surfaces.{slope_surface, slope_excess}
use Rattle.runway_notice.specs.declared.slope.Slope.{Slope}

-- the top exceeds the surface from the nearest runway by that excess
pub record ExceedsSlope (a : Airport) (x : Point) (top : ℤ) (s : Slope) : Type 0 where
  pub nearest_one : Runway
  pub is_nearest : IsNearest a.runways x nearest_one
  pub exceeds : ExceedsBy (slope_surface a nearest_one x) top s.excess
  pub named : s.runway ≡ nearest_one.name
  pub by_sub : s.sub ≡ sub_of a.runways

-- `None` exactly where there is no runway, or the surface from the nearest one does not cover the point or is not exceeded
abbrev pub IsNoticeSlope : Airport → Point → ℤ → Option Slope → Type 0
IsNoticeSlope a x top None = (r : Runway) → IsNearest a.runways x r → IsExcess (slope_surface a r x) top None
IsNoticeSlope a x top (Some s) = ExceedsSlope a x top s

-- ---- the same as a function

abbrev pub slope_by : Airport → Runway → ℕ → Slope
slope_by a r excess = record { sub = sub_of a.runways; runway = r.name; excess = excess }

unfoldable pub notice_slope : Airport → Point → ℤ → Option Slope
notice_slope a x top = option_and_then (λ r. option_map (slope_by a r) (slope_excess a r x top)) (nearest a.runways x)
