-- Distances from a point to a line, by their squares.
use Rattle.std.specs.Prelude.{ℕ, ℤ, pos, ◌+◌, ◌*◌, ◌-ℤ◌, ◌*ℤ◌, ◌≤◌, ◌<◌, ◌^◌, ◌≤ℤ◌, ◌<ℤ◌, unsigned_abs, Bool, ◌&&◌, int_le, nat_le, nat_lt}
use Rattle.std.specs.Ordering.{nat_cmp}
use Rattle.std.specs.declared.cmp.Ordering.{Ordering}
use Rattle.grid_exact.specs.Lines.{Offset}
use Rattle.runway_lines.specs.Centerlines.{clamped_length}
use Rattle.runway_notice.specs.declared.slope.TheConstants.{RATIO_B1}

-- a fraction of whole numbers
pub record Fraction : Type 0 where
  pub part : ℕ
  pub whole : ℕ

-- the order of fractions
abbrev pub fraction_cmp : Fraction → Fraction → Ordering
fraction_cmp a b = nat_cmp (a.part * b.whole) (b.part * a.whole)

-- the distance of a point with this offset before the start or past the end of a line, times the line's length
abbrev pub distance_beyond : Offset → ℕ
distance_beyond o = unsigned_abs (o.along -ℤ clamped_length o.along o.square)

-- the square of the distance from a point with this offset to the nearest point of the line
abbrev pub square_distance : Offset → Fraction
square_distance o = record { part = distance_beyond o * distance_beyond o + o.aside * o.aside; whole = o.square }

-- b >= sqrt(d)
pub record IsAtLeastRootOf (d : Fraction) (b : ℤ) : Type 0 where
  pub not_negative : pos 0 ≤ℤ b
  pub square : d.part ≤ unsigned_abs b * unsigned_abs b * d.whole

-- b > sqrt(d)
pub record IsAboveRootOf (d : Fraction) (b : ℤ) : Type 0 where
  pub not_negative : pos 0 ≤ℤ b
  pub square : d.part < unsigned_abs b * unsigned_abs b * d.whole

-- the distance at which a slope of ratio to 1, from the elevation base, has the level z
abbrev pub run_of : ℤ → ℤ → ℤ → ℤ
run_of ratio base z = ratio *ℤ (z -ℤ base)

-- ---- the same predicates as tests that compute

abbrev pub is_at_least_root_of : Fraction → ℤ → Bool
is_at_least_root_of d b = int_le (pos 0) b && nat_le d.part (unsigned_abs b * unsigned_abs b * d.whole)

abbrev pub is_above_root_of : Fraction → ℤ → Bool
is_above_root_of d b = int_le (pos 0) b && nat_lt d.part (unsigned_abs b * unsigned_abs b * d.whole)

-- ---- for proofs alone

-- bounds for the line of a runway and a point of the grid
pub record IsMeasure (part whole : ℕ) : Type 0 where
  pub part_size : part ≤ 2 ^ 90
  pub whole_size : whole ≤ 2 ^ 37

-- bounds on the slopes from runways
pub record IsSlopeFrom (base ratio : ℤ) : Type 0 where
  pub rises : pos 0 <ℤ ratio
  pub ratio_size : ratio ≤ℤ RATIO_B1
  pub base_size : unsigned_abs base ≤ 2 ^ 19
