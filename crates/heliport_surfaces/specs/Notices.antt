-- The slope of 77.9(b)(3): 25 to 1 for 5,000 feet from the nearest point of a heliport's takeoff and landing area.
use Rattle.std.specs.Prelude.{ℕ, ℤ, pos, ◌+◌, ◌*◌, ◌-ℤ◌, ◌≤◌, ◌≤ℤ◌, Bool, ◌&&◌, if◌then◌else◌, int_le, int_lt, unsigned_abs, Option}
use Rattle.grid_exact.specs.Root.{AtMostRoot, BelowRoot}
use Rattle.grid_exact.specs.Excess.{Surface, excess_of, is_at_most_root, is_below_root, most_excess}
use Rattle.grid_exact.specs.Lines.{Offset}
use Rattle.heliport_surfaces.specs.Landings.{Landing}
use Rattle.heliport_surfaces.specs.declared.rules.TheConstants.{NOTICE_SLOPE, NOTICE_RANGE}

-- the position of a point relative to an area with an axis of length sqrt(n): the distance before or past the ends of the axis and the
-- distance to a side of it, both times sqrt(n), the width of the area, and n
pub record Gap : Type 0 where
  pub beyond : ℕ
  pub aside : ℕ
  pub width : ℕ
  pub square : ℕ

-- the distance of m below 0 or above n
abbrev pub beyond_ends : ℤ → ℕ → ℕ
beyond_ends m n = if int_lt m (pos 0) then unsigned_abs m else if int_lt (pos n) m then unsigned_abs (m -ℤ pos n) else 0

abbrev pub gap : Landing → Offset → Gap
gap l o = record { beyond = beyond_ends o.along o.square; aside = o.aside; width = unsigned_abs l.width; square = o.square }

-- the point lies between the two sides of the area or their extensions, 2*q <= w*sqrt(n) with q aside and the width w: then its distance
-- is p/sqrt(n), with p beyond
abbrev pub is_in_line : Gap → Bool
is_in_line g = is_at_most_root (pos (2 * g.aside)) (pos g.width) g.square

-- else a side of the area is nearest or, past its ends, a corner, and the square of the distance is p*p/n + (q/sqrt(n) - w/2)^2.
-- It is at most d*d where 4*p*p + (2*q - w*sqrt(n))^2 <= 4*d*d*n, which is 4*p*p + 4*q*q + w*w*n - 4*d*d*n <= 4*q*w*sqrt(n); this
-- is the left side
abbrev pub corner : Gap → ℕ → ℤ
corner g d = pos (4 * (g.beyond * g.beyond) + 4 * (g.aside * g.aside) + g.width * g.width * g.square) -ℤ pos (4 * (d * d) * g.square)

-- so the point is at most d away where excess_away <= reach * sqrt(n), and nearer where it is less
abbrev pub excess_away : Gap → ℕ → ℤ
excess_away g d = if is_in_line g then pos g.beyond else corner g d

abbrev pub reach : Gap → ℕ → ℤ
reach g d = if is_in_line g then pos d else pos (4 * g.aside * g.width)

abbrev pub IsWithin : Gap → ℕ → Type 0
IsWithin g d = AtMostRoot (excess_away g d) (reach g d) g.square

abbrev pub IsNearer : Gap → ℕ → Type 0
IsNearer g d = BelowRoot (excess_away g d) (reach g d) g.square

-- at the distance d from an area at the elevation z the slope has the height z + d/25: for a top not below z, comparing the distance with
-- 25 times the top's height above z decides whether the top is at or above the slope
pub record IsOver (Is : ℕ → Type 0) (z top : ℤ) : Type 0 where
  pub not_below : z ≤ℤ top
  pub distance : Is (NOTICE_SLOPE * unsigned_abs (top -ℤ z))

-- the top is at or above it where the point is at most that distance away, and above it where the point is nearer
abbrev pub IsAtNotice : ℤ → Gap → ℤ → Type 0
IsAtNotice z g top = IsOver (IsWithin g) z top

abbrev pub IsAboveNotice : ℤ → Gap → ℤ → Type 0
IsAboveNotice z g top = IsOver (IsNearer g) z top

-- it extends 5,000 feet, so it is nowhere more than 200 feet above z
abbrev pub notice : Landing → Offset → Surface
notice l o = record {
  Covers = IsWithin (gap l o) NOTICE_RANGE;
  Above = IsAboveNotice l.z (gap l o);
  AtOrAbove = IsAtNotice l.z (gap l o);
}

-- ---- the same predicates as tests that compute

unfoldable pub is_within : Gap → ℕ → Bool
is_within g d = is_at_most_root (excess_away g d) (reach g d) g.square

unfoldable pub is_nearer : Gap → ℕ → Bool
is_nearer g d = is_below_root (excess_away g d) (reach g d) g.square

unfoldable pub is_over : (ℕ → Bool) → ℤ → ℤ → Bool
is_over is z top = int_le z top && is (NOTICE_SLOPE * unsigned_abs (top -ℤ z))

abbrev pub excess_over_notice : Landing → Offset → ℤ → Option ℕ
excess_over_notice l o top =
    excess_of (is_within (gap l o) NOTICE_RANGE) (is_over (is_nearer (gap l o)) l.z) (is_over (is_within (gap l o)) l.z) most_excess top

-- ---- for proofs alone

-- a consequence, without a root, for a point at most d away: p <= d*sqrt(n) and 2*q <= (2*d + w)*sqrt(n), so it is at most d away in the
-- direction of the axis alone, and to a side of the area alone
pub record IsClose (g : Gap) (d : ℕ) : Type 0 where
  pub ends : g.beyond * g.beyond ≤ d * d * g.square
  pub sides : 4 * (g.aside * g.aside) ≤ (2 * d + g.width) * (2 * d + g.width) * g.square
