-- The approach surface of one end: 77.19(d).
use Rattle.std.specs.Prelude.{ℕ, ℤ, pos, ◌≤◌, ◌^◌, ◌-ℤ◌, ◌*ℤ◌, ◌≤ℤ◌, ◌<ℤ◌, Bool, ◌&&◌, int_lt, if◌then◌else◌, unsigned_abs, Option}
use Rattle.grid_exact.specs.Root.{AtMostRoot}
use Rattle.grid_exact.specs.Excess.{Surface, root_surface, root_excess_of, is_above_root, is_at_most_root}
use Rattle.grid_exact.specs.declared.point.Point.{Point}
use Rattle.runway_classes.specs.declared.class.EndClass.{EndClass}
use Rattle.runway_classes.specs.Class.{HasSizes, IsFlared}
use Rattle.grid_exact.specs.Lines.{Line, Offset, offset}
use Rattle.runway_classes.specs.declared.class.TheConstants.{PRECISION_SLOPE, WIDENING_SCALE}
use Rattle.imaginary_surfaces.specs.Primaries.{IsWidth}
use Rattle.imaginary_surfaces.specs.declared.measures.TheConstants.{HALF_WIDTH_SCALE, SECOND_SLOPE_DROP}

-- the line outward from the end of the primary surface, the width there, which is that of the primary surface, the class of the
-- end, the elevation of the end, and whether it is a precision approach
pub record Approach : Type 0 where
  pub line : Line
  pub width : ℤ
  pub class : EndClass
  pub z : ℤ
  pub precision : Bool

-- the distance of the point to a side, minus the growth of the half width there, in fortieths, times the vector's length
abbrev pub lateral_excess : Approach → Offset → ℤ
lateral_excess a o = WIDENING_SCALE *ℤ pos o.aside -ℤ a.class.k *ℤ o.along

-- it covers the points ahead of the end, up to its length, within the half width that grows by k in 40
pub record ApproachCovers (a : Approach) (o : Offset) : Type 0 where
  pub ahead : pos 0 <ℤ o.along
  pub not_past : AtMostRoot o.along a.class.length o.square
  pub not_beside : AtMostRoot (lateral_excess a o) (HALF_WIDTH_SCALE *ℤ a.width) o.square

-- m > split * sqrt(n): past the first 10,000 feet of a precision approach, where its second slope begins; a surface with one slope
-- ends at its split
abbrev pub is_past_split : Approach → Offset → Bool
is_past_split a o = is_above_root o.along a.class.split o.square

-- the slope at the point, and the elevation from which it rises at the end of the primary surface: the second slope of 40 to 1
-- continues where the first of 50 to 1 ends, at 10,000 feet and 200 feet higher, as if it had begun 50 feet below the end, since it
-- rises by 250 feet over that distance
abbrev pub slope_at : Approach → Offset → ℤ
slope_at a o = if is_past_split a o then a.class.slope2 else a.class.slope

abbrev pub base_at : Approach → Offset → ℤ
base_at a o = if is_past_split a o then a.z -ℤ SECOND_SLOPE_DROP else a.z

-- a top z is above it where m < slope * (z - base) * sqrt(n)
abbrev pub approach_at : Approach → Offset → Surface
approach_at a o = root_surface (ApproachCovers a o) o.along (slope_at a o) (slope_at a o *ℤ base_at a o) o.square

abbrev pub approach : Approach → Point → Surface
approach a x = approach_at a (offset a.line x)

-- ---- the same predicates as tests that compute

unfoldable pub approach_covers : Approach → Offset → Bool
approach_covers a o =
    int_lt (pos 0) o.along
    && is_at_most_root o.along a.class.length o.square
    && is_at_most_root (lateral_excess a o) (HALF_WIDTH_SCALE *ℤ a.width) o.square

abbrev pub excess_over_approach : Approach → Point → ℤ → Option ℕ
excess_over_approach a x top =
    let o = offset a.line x in
    root_excess_of (approach_covers a o) o.along (slope_at a o) (slope_at a o *ℤ base_at a o) o.square top

-- ---- for proofs alone

-- outward of the end, up to the length
pub record IsAlong (a : Approach) (o : Offset) : Type 0 where
  pub ahead : pos 0 <ℤ o.along
  pub not_past : AtMostRoot o.along a.class.length o.square

-- bounds that a class and an elevation satisfy
pub record IsApproach (width : ℤ) (class : EndClass) (z : ℤ) : Type 0 where
  pub wide : IsWidth width
  pub sized : HasSizes class
  pub flared : IsFlared width class
  pub z_size : unsigned_abs z ≤ 2 ^ 18

-- bounds on a slope and its base
pub record IsRise (slope base : ℤ) : Type 0 where
  pub rises : pos 0 <ℤ slope
  pub slope_most : slope ≤ℤ PRECISION_SLOPE
  pub base_size : unsigned_abs base ≤ 2 ^ 19
