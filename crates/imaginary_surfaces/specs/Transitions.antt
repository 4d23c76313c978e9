-- The transitional surfaces: 77.19(e). They extend outward and upward at right angles to the runway centerline and the runway centerline
-- extended, at a slope of 7 to 1, from the sides of the primary surface and from the sides of the approach surfaces.
use Rattle.std.specs.Prelude.{ℕ, ℤ, pos, ◌*◌, ◌+ℤ◌, ◌-ℤ◌, ◌*ℤ◌, ◌≤ℤ◌, ◌<ℤ◌, ◌≡◌, Bool, true, false, ◌&&◌, int_le, int_lt, Option}
use Rattle.grid_exact.specs.Root.{AtLeastRoot, AtMostRoot}
use Rattle.grid_exact.specs.Excess.{Surface, root_surface, root_excess_of, is_at_least_root, is_at_most_root}
use Rattle.grid_exact.specs.Level.{Reaches}
use Rattle.grid_exact.specs.Lines.{Offset, offset}
use Rattle.grid_exact.specs.declared.point.Point.{Point}
use Rattle.grid_exact.specs.declared.cap.Cap.{Cap}
use Rattle.grid_exact.specs.declared.cap.Cap.TheVariants.{Level, Beyond}
use Rattle.runway_lines.specs.Centerlines.{elevation}
use Rattle.imaginary_surfaces.specs.Primaries.{Primary}
use Rattle.imaginary_surfaces.specs.Approaches.{Approach, lateral_excess, slope_at, base_at}
use Rattle.imaginary_surfaces.specs.declared.measures.TheConstants.{APPROACH_FACTOR, HALF_WIDTH_SCALE, PRIMARY_FACTOR, SCALED_REACH}

-- ---- any of them

-- the rise at a point: a level z is at or above the surface where left <= (factor * z - shift) * sqrt(square)
pub record Incline : Type 0 where
  pub left : ℤ
  pub factor : ℤ
  pub shift : ℤ
  pub square : ℕ

-- the upper limit of the surface: where the horizontal or conical surface has a level at the point, the surface covers the point where
-- that level is at or above it; where neither covers the point, only where it extends beyond them
abbrev pub EndsAt : Incline → Type 0 → Cap → Type 0
EndsAt i beyond (Level l) = Reaches i.left i.factor i.shift i.square l
EndsAt i beyond Beyond = beyond

pub record TransitionCovers (reaches : Type 0) (i : Incline) (beyond : Type 0) (cap : Cap) : Type 0 where
  pub reached : reaches
  pub limited : EndsAt i beyond cap

abbrev pub transition : Type 0 → Incline → Type 0 → Cap → Surface
transition reaches i beyond cap = root_surface (TransitionCovers reaches i beyond cap) i.left i.factor i.shift i.square

-- ---- beside the primary surface

-- it reaches the points between the two ends of the primary surface, at least half its width from its line
pub record ReachesBesidePrimary (p : Primary) (o : Offset) : Type 0 where
  pub past_start : pos 0 ≤ℤ o.along
  pub before_end : o.along ≤ℤ pos o.square
  pub from_side : AtLeastRoot (pos (2 * o.aside)) p.width o.square

-- from the side of the primary surface it rises 7 to 1: a level z is at or above it where
-- aside - width / 2 * sqrt(n) <= 7 * (z - elevation) * sqrt(n); both sides are doubled
abbrev pub incline_beside_primary : Primary → Offset → Point → Incline
incline_beside_primary p o x = record {
  left = pos (2 * o.aside);
  factor = PRIMARY_FACTOR;
  shift = PRIMARY_FACTOR *ℤ elevation p.profile x -ℤ p.width;
  square = o.square;
}

-- it never extends beyond the horizontal and conical surfaces
abbrev pub beside_primary_at : Primary → Offset → Point → Cap → Surface
beside_primary_at p o x cap = transition (ReachesBesidePrimary p o) (incline_beside_primary p o x) ⊥ cap

abbrev pub beside_primary : Primary → Point → Cap → Surface
beside_primary p x cap = beside_primary_at p (offset p.line x) x cap

-- ---- beside an approach surface

-- it reaches the points ahead of the end, up to the length of the approach surface, at least the half width there from the line
pub record ReachesBesideApproach (a : Approach) (o : Offset) : Type 0 where
  pub ahead : pos 0 <ℤ o.along
  pub not_past : AtMostRoot o.along a.class.length o.square
  pub from_side : AtLeastRoot (lateral_excess a o) (HALF_WIDTH_SCALE *ℤ a.width) o.square

-- from the side of the approach surface, which rises s to 1 along the line from `base` at the end of the primary surface, it
-- rises 7 to 1: a level z is at or above it where, in fortieths,
-- (outside - 20 * width * sqrt(n)) / 7 + 40 * along / s <= 40 * (z - base) * sqrt(n); both sides are multiplied by 7 * s
abbrev pub incline_beside_approach : Approach → Offset → Incline
incline_beside_approach a o = record {
  left = slope_at a o *ℤ lateral_excess a o +ℤ APPROACH_FACTOR *ℤ o.along;
  factor = APPROACH_FACTOR *ℤ slope_at a o;
  shift = APPROACH_FACTOR *ℤ slope_at a o *ℤ base_at a o -ℤ HALF_WIDTH_SCALE *ℤ slope_at a o *ℤ a.width;
  square = o.square;
}

-- beside the part of a precision approach surface that goes beyond the limits of the conical surface it extends 5,000 feet, measured
-- horizontally from the edge of the approach surface and at right angles to the runway centerline
pub record GoesBeyond (a : Approach) (o : Offset) : Type 0 where
  pub precision : a.precision ≡ true
  pub near : AtMostRoot (lateral_excess a o) (HALF_WIDTH_SCALE *ℤ a.width +ℤ SCALED_REACH) o.square

abbrev pub beside_approach_at : Approach → Offset → Cap → Surface
beside_approach_at a o cap = transition (ReachesBesideApproach a o) (incline_beside_approach a o) (GoesBeyond a o) cap

abbrev pub beside_approach : Approach → Point → Cap → Surface
beside_approach a x cap = beside_approach_at a (offset a.line x) cap

-- ---- the same predicates as tests that compute

abbrev pub ends_at : Incline → Bool → Cap → Bool
ends_at i beyond (Level l) = is_at_most_root i.left (i.factor *ℤ l -ℤ i.shift) i.square
ends_at i beyond Beyond = beyond

abbrev pub transition_excess_of : Bool → Incline → Bool → Cap → ℤ → Option ℕ
transition_excess_of reaches i beyond cap top = root_excess_of (reaches && ends_at i beyond cap) i.left i.factor i.shift i.square top

unfoldable pub reaches_beside_primary : Primary → Offset → Bool
reaches_beside_primary p o =
    int_le (pos 0) o.along
    && int_le o.along (pos o.square)
    && is_at_least_root (pos (2 * o.aside)) p.width o.square

abbrev pub excess_beside_primary : Primary → Point → Cap → ℤ → Option ℕ
excess_beside_primary p x cap top =
    let o = offset p.line x in
    transition_excess_of (reaches_beside_primary p o) (incline_beside_primary p o x) false cap top

unfoldable pub reaches_beside_approach : Approach → Offset → Bool
reaches_beside_approach a o =
    int_lt (pos 0) o.along
    && is_at_most_root o.along a.class.length o.square
    && is_at_least_root (lateral_excess a o) (HALF_WIDTH_SCALE *ℤ a.width) o.square

unfoldable pub goes_beyond : Approach → Offset → Bool
goes_beyond a o = a.precision && is_at_most_root (lateral_excess a o) (HALF_WIDTH_SCALE *ℤ a.width +ℤ SCALED_REACH) o.square

abbrev pub excess_beside_approach : Approach → Point → Cap → ℤ → Option ℕ
excess_beside_approach a x cap top =
    let o = offset a.line x in
    transition_excess_of (reaches_beside_approach a o) (incline_beside_approach a o) (goes_beyond a o) cap top
