-- The slope from one runway of an airport: 77.9(b)(1) and (2).
use Rattle.std.specs.Prelude.{ℕ, ℤ, ◌≡◌, ◌&&◌, Bool, true, Option}
use Rattle.grid_exact.specs.Excess.{Surface, excess_of, most_excess}
use Rattle.grid_exact.specs.declared.point.Point.{Point}
use Rattle.airfields.specs.Categories.{is_described}
use Rattle.airfields.specs.declared.airfield.Airport.{Airport}
use Rattle.airfields.specs.declared.runway.Runway.{Runway}
use Rattle.runway_notice.specs.Distances.{IsAtLeastRootOf, IsAboveRootOf, run_of, is_at_least_root_of, is_above_root_of}
use Rattle.runway_notice.specs.Nearest.{distance_of, elevation_of}
use Rattle.runway_notice.specs.Slopes.{sub_of, range_of, ratio_of}

-- 77.9(d) describes the airport, and the point is within the horizontal distance of the runway
pub record IsInRange (a : Airport) (r : Runway) (x : Point) : Type 0 where
  pub described : is_described a.category ≡ true
  pub within : IsAtLeastRootOf (distance_of x r) (range_of (sub_of a.runways))

-- the distance at which the slope from the nearest point of the runway has the level z
abbrev pub run_to : Airport → Runway → Point → ℤ → ℤ
run_to a r x z = run_of (ratio_of (sub_of a.runways)) (elevation_of x r) z

-- the surface that rises outward from the nearest point of the runway
abbrev pub slope_surface : Airport → Runway → Point → Surface
slope_surface a r x = record {
  Covers = IsInRange a r x;
  Above = λ z. IsAboveRootOf (distance_of x r) (run_to a r x z);
  AtOrAbove = λ z. IsAtLeastRootOf (distance_of x r) (run_to a r x z);
}

-- ---- the same predicates as tests that compute

unfoldable pub is_in_range : Airport → Runway → Point → Bool
is_in_range a r x = is_described a.category && is_at_least_root_of (distance_of x r) (range_of (sub_of a.runways))

-- the excess of a top over the surface, where it is exceeded
unfoldable pub slope_excess : Airport → Runway → Point → ℤ → Option ℕ
slope_excess a r x top =
    excess_of (is_in_range a r x)
    (λ z. is_above_root_of (distance_of x r) (run_to a r x z))
    (λ z. is_at_least_root_of (distance_of x r) (run_to a r x z)) most_excess top
