-- The takeoff and landing area of a heliport, its primary surface, and the transitional surfaces beside it: 77.23(a), (c).
-- All lengths along and beside the axis are times its length sqrt(n).
use Rattle.std.specs.Prelude.{ℕ, ℤ, pos, ◌*◌, ◌-ℤ◌, ◌*ℤ◌, ◌&&◌, int_le, Option}
use Rattle.grid_exact.specs.Excess.{Surface, flat_surface, flat_excess_of}
use Rattle.grid_exact.specs.Lines.{Line, Offset}
use Rattle.heliport_surfaces.specs.Places.{Place, Heights, IsCovered, IsCoveredBeside, sloping_surface, is_covered, is_covered_beside, excess_over}
use Rattle.heliport_surfaces.specs.declared.rules.TheConstants.{SIDE_SLOPE}

-- the axis of the area between its two ends, its width, and the elevation of the heliport
pub record Landing : Type 0 where
  pub line : Line
  pub width : ℤ
  pub z : ℤ

-- the primary surface coincides with the area: it covers the points between the two ends, at most half the width from the axis, which
-- is 2 * q <= w * sqrt(n) with q aside
unfoldable pub primary_place : Landing → Offset → Place
primary_place l o = record {
  is_along = int_le (pos 0) o.along && int_le o.along (pos o.square);
  out = pos (2 * o.aside);
  edge = l.width;
  aside = pos o.aside;
  square = o.square;
}

-- it is a horizontal plane at the elevation of the heliport
abbrev pub primary : Landing → Offset → Surface
primary l o = flat_surface (IsCovered (primary_place l o)) l.z

-- four times the height of a 2 to 1 slope extended to the axis, where the slope has the elevation z at half the width from it
abbrev pub at_axis : (z width : ℤ) → ℤ
at_axis z width = SIDE_SLOPE *ℤ z -ℤ width

-- the transitional surfaces rise by 2 to 1 from the lateral boundary: with q aside, a top Z is above one where
-- q/sqrt(n) - w/2 < 2 * (Z - z), which is 2 * q < (4 * (Z - z) + w) * sqrt(n)
unfoldable pub primary_side_heights : Landing → Offset → Heights
primary_side_heights l o = record { a = pos (2 * o.aside); k = SIDE_SLOPE; c = at_axis l.z l.width; n = o.square }

abbrev pub primary_side : Landing → Offset → Surface
primary_side l o = sloping_surface (IsCoveredBeside (primary_place l o)) (primary_side_heights l o)

-- ---- the same predicates as tests that compute

abbrev pub excess_over_primary : Landing → Offset → ℤ → Option ℕ
excess_over_primary l o top = flat_excess_of (is_covered (primary_place l o)) l.z top

abbrev pub excess_over_primary_side : Landing → Offset → ℤ → Option ℕ
excess_over_primary_side l o top = excess_over (is_covered_beside (primary_place l o)) (primary_side_heights l o) top
