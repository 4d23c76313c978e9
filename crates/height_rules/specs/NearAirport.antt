-- 77.17(a)(2): heights within six nautical miles of an airport's reference point.
use Rattle.std.specs.Prelude.{ℕ, ℤ, pos, ◌-ℤ◌, ◌*ℤ◌, ◌≡◌, ◌&&◌, Option, Bool, true, int_le, int_lt, if◌then◌else◌}
use Rattle.std.specs.Int.{int_max}
use Rattle.std.specs.List.{list_any}
use Rattle.grid_exact.specs.Root.{AtLeastRoot}
use Rattle.grid_exact.specs.Excess.{Surface, excess_of, is_above_root, is_at_least_root, most_excess}
use Rattle.grid_exact.specs.Vector.{length_of}
use Rattle.airfields.specs.Categories.{is_described}
use Rattle.airfields.specs.Runways.{is_long}
use Rattle.airfields.specs.Sites.{Site}
use Rattle.airfields.specs.declared.airfield.Airport.{Airport}
use Rattle.height_rules.specs.Heights.{standards_top}
use Rattle.height_rules.specs.Limits.{IsAtLimit, IsAboveLimit, inner_limit, is_inner, reach_of}
use Rattle.height_rules.specs.declared.limit.TheConstants.{NAUTICAL_MILE, RISE_PER_MILE}
use Rattle.height_rules.specs.declared.near_airport.TheConstants.{OUTER_HUNDREDTHS}

-- the square of the distance to the airport's reference point
abbrev pub square_distance : Airport → Site → ℕ
square_distance a s = length_of (s.at.x -ℤ a.arp.x) (s.at.y -ℤ a.arp.y)

-- the airport is of a described category and has a long runway, and the site is at most 5.99 nautical miles from its reference
-- point: 100 times the distance is at most 599 nautical miles
pub record IsNear (a : Airport) (s : Site) : Type 0 where
  pub within : AtLeastRoot (OUTER_HUNDREDTHS *ℤ NAUTICAL_MILE) (pos 100) (square_distance a s)
  pub described : is_described a.category ≡ true
  pub long : list_any is_long a.runways ≡ true

-- the higher of the ground elevation at the site and the airport elevation
abbrev pub base_of : Airport → Site → ℤ
base_of a s = int_max s.terrain a.elevation

abbrev pub near_surface : Airport → Site → Surface
near_surface a s = record {
  Covers = IsNear a s;
  Above = IsAboveLimit (square_distance a s) (base_of a s);
  AtOrAbove = IsAtLimit (square_distance a s) (base_of a s);
}

-- ---- the same predicates as tests that compute, and the excess from them

unfoldable pub is_near : Airport → Site → Bool
is_near a s = is_at_least_root (OUTER_HUNDREDTHS *ℤ NAUTICAL_MILE) (pos 100) (square_distance a s) && is_described a.category && list_any is_long a.runways

unfoldable pub is_at_limit : ℕ → ℤ → ℤ → Bool
is_at_limit d2 base z = if is_inner d2 then int_le (inner_limit base) z else is_at_least_root (reach_of base z) RISE_PER_MILE d2

unfoldable pub is_above_limit : ℕ → ℤ → ℤ → Bool
is_above_limit d2 base z = if is_inner d2 then int_lt (inner_limit base) z else is_above_root (reach_of base z) RISE_PER_MILE d2

-- the excess over the airport's limit, if it is exceeded
unfoldable pub near_excess : Airport → Site → Option ℕ
near_excess a s =
    excess_of (is_near a s) (is_above_limit (square_distance a s) (base_of a s)) (is_at_limit (square_distance a s) (base_of a s)) most_excess (standards_top s)
