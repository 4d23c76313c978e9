-- The approach surface of one end of a heliport, and the transitional surfaces beside it: 77.23(b), (c).
-- All lengths along and beside the axis are times its length sqrt(n).
use Rattle.std.specs.Prelude.{ℕ, ℤ, pos, ◌+ℤ◌, ◌-ℤ◌, ◌*ℤ◌, ◌&&◌, int_lt, Option}
use Rattle.grid_exact.specs.Excess.{Surface, is_at_most_root}
use Rattle.grid_exact.specs.Lines.{Line, Offset}
use Rattle.heliport_surfaces.specs.Places.{Place, Heights, IsCovered, IsCoveredBeside, sloping_surface, is_covered, is_covered_beside, excess_over}
use Rattle.heliport_surfaces.specs.Landings.{at_axis}
use Rattle.heliport_surfaces.specs.declared.rules.TheConstants.{APPROACH_LENGTH, APPROACH_WIDTH, SIDE_SCALE, RISE_SCALE}

-- the line outward from the end of the primary surface, the width and the elevation there, and the slope
pub record Approach : Type 0 where
  pub line : Line
  pub width : ℤ
  pub z : ℤ
  pub slope : ℤ

-- 80,000 times the distance of the point to a side, minus the growth of the half width there: at the distance d from the end, the
-- half width is w/2 + (2,500 - w/2) * d / 40,000
abbrev pub lateral_excess : Approach → Offset → ℤ
lateral_excess a o = SIDE_SCALE *ℤ pos o.aside -ℤ (APPROACH_WIDTH -ℤ a.width) *ℤ o.along

-- it begins at the end of the primary surface with the same width, and extends 4,000 feet, where its width is 500 feet
unfoldable pub approach_place : Approach → Offset → Place
approach_place a o = record {
  is_along = int_lt (pos 0) o.along && is_at_most_root o.along APPROACH_LENGTH o.square;
  out = lateral_excess a o;
  edge = APPROACH_LENGTH *ℤ a.width;
  aside = pos o.aside;
  square = o.square;
}

-- with m along, a top Z is above it where m/sqrt(n) < slope * (Z - z)
unfoldable pub approach_heights : Approach → Offset → Heights
approach_heights a o = record { a = o.along; k = a.slope; c = a.slope *ℤ a.z; n = o.square }

abbrev pub approach : Approach → Offset → Surface
approach a o = sloping_surface (IsCovered (approach_place a o)) (approach_heights a o)

-- 160,000 * slope times the height above the elevation from the slopes outward and to a side
abbrev pub rise_at : Approach → Offset → ℤ
rise_at a o = a.slope *ℤ lateral_excess a o +ℤ RISE_SCALE *ℤ o.along

-- the transitional surfaces rise by 2 to 1 from the approach surface's height at the lateral boundary, at right angles to the axis:
-- with m along and p outside, a top Z is above one where m/(slope * sqrt(n)) + (p/(80,000 * sqrt(n)) - w/2) / 2 < Z - z, which is
-- slope * p + 160,000 * m < (160,000 * slope * (Z - z) + 40,000 * slope * w) * sqrt(n)
unfoldable pub approach_side_heights : Approach → Offset → Heights
approach_side_heights a o = record {
  a = rise_at a o;
  k = RISE_SCALE *ℤ a.slope;
  c = APPROACH_LENGTH *ℤ (a.slope *ℤ at_axis a.z a.width);
  n = o.square;
}

abbrev pub approach_side : Approach → Offset → Surface
approach_side a o = sloping_surface (IsCoveredBeside (approach_place a o)) (approach_side_heights a o)

-- ---- the same predicates as tests that compute

abbrev pub excess_over_approach : Approach → Offset → ℤ → Option ℕ
excess_over_approach a o top = excess_over (is_covered (approach_place a o)) (approach_heights a o) top

abbrev pub excess_over_approach_side : Approach → Offset → ℤ → Option ℕ
excess_over_approach_side a o top = excess_over (is_covered_beside (approach_place a o)) (approach_side_heights a o) top
