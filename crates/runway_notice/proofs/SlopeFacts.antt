-- The excess over the slope from one runway, as the tests compute it.
use Rattle.std.proofs.Common.{◌≡◌, ◌*◌, ◌≤◌, ◌<◌, ◌^◌, ℕ, ℤ, pos, negsuc, ◌-ℤ◌, ◌*ℤ◌, ◌≤ℤ◌, ◌<ℤ◌, int_le, unsigned_abs, true, subst, arith}
use Rattle.std.specs.Prelude.{nat_le, nat_lt}
use Rattle.std.proofs.lemmas.Bool.{and_from, and_parts, le-leb, leb-true, lt-ltb, ltb-true}
use Rattle.std.proofs.lemmas.Int.{ints, by_lt_z}
use Rattle.grid_exact.specs.Excess.{IsExcess, most_excess}
use Rattle.grid_exact.specs.Laws.{mul-le_left}
use Rattle.grid_exact.specs.Level.{IsLevel}
use Rattle.grid_exact.specs.declared.point.Point.{Point}
use Rattle.grid_exact.proofs.TestFacts.{le_in, le_out}
use Rattle.grid_exact.proofs.ExcessLemmas.{Tests, excess_of-IsExcess}
use Rattle.airfields.specs.Categories.{is_described}
use Rattle.airfields.specs.Runways.{IsProper}
use Rattle.airfields.specs.declared.airfield.Airport.{Airport}
use Rattle.airfields.specs.declared.runway.Runway.{Runway}
use Rattle.runway_lines.specs.Centerlines.{clamped_length, climb}
use Rattle.runway_lines.specs.Profiles.{profile_of}
use Rattle.runway_lines.proofs.ElevationFacts.{climb_size}
use Rattle.runway_notice.specs.Distances.{Fraction, IsAtLeastRootOf, IsAboveRootOf, is_at_least_root_of, is_above_root_of, run_of}
use Rattle.runway_notice.specs.Laws.{above_reaches}
use Rattle.runway_notice.specs.Nearest.{distance_of, elevation_of, offset_of}
use Rattle.runway_notice.specs.Slopes.{range_of, ratio_of, sub_of}
use Rattle.runway_notice.specs.Surfaces.{IsInRange, is_in_range, run_to, slope_excess, slope_surface}
use Rattle.runway_notice.specs.declared.slope.Sub.{Sub}
use Rattle.runway_notice.specs.declared.slope.Sub.TheVariants.{B1, B2}
use Rattle.runway_notice.proofs.DistanceFacts.{profile_some}
use Rattle.runway_notice.proofs.FarFacts.{clamped_part}

-- ---- the tests
-- the square of b, times the fraction's whole
abbrev squared : Fraction → ℤ → ℕ
squared d b = unsigned_abs b * unsigned_abs b * d.whole

at_least_out : (d : Fraction) (b : ℤ) → IsAtLeastRootOf d b → is_at_least_root_of d b ≡ true
at_least_out d b h = and_from _ _ (le_out (pos 0) b h.not_negative) (le-leb d.part (squared d b) h.square)

at_least_in : (d : Fraction) (b : ℤ) → is_at_least_root_of d b ≡ true → IsAtLeastRootOf d b
at_least_in d b h =
    let p = and_parts (int_le (pos 0) b) (nat_le d.part (squared d b)) h in
    record { not_negative = le_in (pos 0) b p.0; square = leb-true d.part (squared d b) p.1 }

above_out : (d : Fraction) (b : ℤ) → IsAboveRootOf d b → is_above_root_of d b ≡ true
above_out d b h = and_from _ _ (le_out (pos 0) b h.not_negative) (lt-ltb d.part (squared d b) h.square)

above_in : (d : Fraction) (b : ℤ) → is_above_root_of d b ≡ true → IsAboveRootOf d b
above_in d b h =
    let p = and_parts (int_le (pos 0) b) (nat_lt d.part (squared d b)) h in
    record { not_negative = le_in (pos 0) b p.0; square = ltb-true d.part (squared d b) p.1 }

range_out : (a : Airport) (r : Runway) (x : Point) → IsInRange a r x → is_in_range a r x ≡ true
unfolding is_in_range
range_out a r x h = and_from _ _ h.described (at_least_out (distance_of x r) (range_of (sub_of a.runways)) h.within)

pub range_in : (a : Airport) (r : Runway) (x : Point) → is_in_range a r x ≡ true → IsInRange a r x
unfolding is_in_range
range_in a r x h =
    let p = and_parts (is_described a.category) (is_at_least_root_of (distance_of x r) (range_of (sub_of a.runways))) h in
    record { described = p.0; within = at_least_in (distance_of x r) (range_of (sub_of a.runways)) p.1 }

slope_tests : (a : Airport) (r : Runway) (x : Point) →
    Tests (slope_surface a r x) (is_in_range a r x) (λ z. is_above_root_of (distance_of x r) (run_to a r x z)) (λ z. is_at_least_root_of (distance_of x r) (run_to a r x z))
slope_tests a r x =
    let d = distance_of x r in
    record {
      covers_out = range_out a r x;
      covers_in = range_in a r x;
      above_out = λ z. above_out d (run_to a r x z);
      above_in = λ z. above_in d (run_to a r x z);
      at_out = λ z. at_least_out d (run_to a r x z);
      at_in = λ z. at_least_in d (run_to a r x z);
    }

-- ---- no level below the runway is at or above its slope, and no runway is below all levels
pub ratio_rises : (s : Sub) → pos 0 <ℤ ratio_of s
ratio_rises B1 = omega (arith, ints)
ratio_rises B2 = omega (arith, ints)

from_base : (ratio base z : ℤ) → pos 0 <ℤ ratio → pos 0 ≤ℤ run_of ratio base z → base ≤ℤ z
from_base ratio base z p h =
    by_lt_z z base
    (λ l. absurd (let m : (ratio *ℤ (z -ℤ base)) ≤ℤ (ratio *ℤ negsuc 0) = mul-le_left ratio (z -ℤ base) (negsuc 0) p (omega (arith, ints, l)) in omega (arith, ints, h, m, p)))
    (λ l. l)

-- what is not above the base is not above the slope
pub not_over : (d : Fraction) (ratio base z : ℤ) → pos 0 <ℤ ratio → z ≤ℤ base → IsAboveRootOf d (run_of ratio base z) → ⊥
not_over d ratio base z p l h =
    let m : run_of ratio base z ≤ℤ (ratio *ℤ pos 0) = mul-le_left ratio (z -ℤ base) (pos 0) p (omega (arith, ints, l)) in
    let e : run_of ratio base z ≡ pos 0 = omega (arith, ints, m, h.not_negative) in
    let k : d.part < unsigned_abs (pos 0) * unsigned_abs (pos 0) * d.whole = subst (λ (b : ℤ). d.part < unsigned_abs b * unsigned_abs b * d.whole) e h.square in
    omega (arith, k)

elevation_size : (x : Point) (r : Runway) → IsProper r → unsigned_abs (elevation_of x r) ≤ 2 ^ 19
unfolding profile_of
elevation_size x r p =
    let o = offset_of x r in
    let t = clamped_part o.along o.square in
    let rise : unsigned_abs (climb (profile_of r) o) ≤ unsigned_abs (profile_of r).rise =
    climb_size (profile_of r).rise (clamped_length o.along o.square) o.square (profile_some r p.within_length) t.least t.most in
    omega (arith, ints, rise, p.elevation1.least, p.elevation1.most, p.elevation2.least, p.elevation2.most)

low_enough : (top base z : ℤ) → IsLevel top → unsigned_abs base ≤ 2 ^ 19 → base ≤ℤ z → (top -ℤ pos most_excess) ≤ℤ z
unfolding most_excess
low_enough top base z l s h = omega (arith, ints, l.high, s, h)

-- ---- what the tests compute is the excess
pub slope_excess_is : (a : Airport) (r : Runway) (x : Point) (top : ℤ) → IsProper r → IsLevel top → IsExcess (slope_surface a r x) top (slope_excess a r x top)
unfolding slope_excess
slope_excess_is a r x top proper level =
    let d = distance_of x r in
    excess_of-IsExcess (slope_surface a r x) (is_in_range a r x) (λ z. is_above_root_of d (run_to a r x z)) (λ z. is_at_least_root_of d (run_to a r x z)) most_excess top
    (slope_tests a r x) (above_reaches d (run_to a r x top))
    (λ p q z h. low_enough top (elevation_of x r) z level (elevation_size x r proper) (from_base (ratio_of (sub_of a.runways)) (elevation_of x r) z (ratio_rises (sub_of a.runways)) h.not_negative))
