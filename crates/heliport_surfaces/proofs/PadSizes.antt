-- Sizes that the limits of a heliport give.
use Rattle.std.proofs.Common.{◌≡◌, ℕ, ◌*◌, ◌<◌, ◌≤◌, ◌^◌, ℤ, pos, ◌+ℤ◌, ◌*ℤ◌, ◌≤ℤ◌, ◌<ℤ◌, FitsSigned, w64, true, unsigned_abs, int_lt, arith}
use Rattle.std.proofs.Math.IntN.{*ℤ-zero}
use Rattle.std.proofs.Math.Nat.{mul-le-mul_left}
use Rattle.std.proofs.lemmas.Bool.{and_parts}
use Rattle.std.proofs.lemmas.Int.{ints, by_lt_z, unsigned_abs-mul}
use Rattle.grid_exact.specs.Lines.{Offset}
use Rattle.grid_exact.specs.Excess.{is_at_most_root}
use Rattle.grid_exact.specs.Root.{AtLeastRoot, signed_square}
use Rattle.grid_exact.proofs.IntLaws.{signed_square_le, signed_square_lt, mul-le_left, mul-lt_right}
use Rattle.grid_exact.proofs.Sizes.{abs_mul_le}
use Rattle.grid_exact.proofs.TestFacts.{lt_in}
use Rattle.heliport_surfaces.specs.Sizes.{HasPadSizes, IsPadSlope}
use Rattle.heliport_surfaces.specs.Places.{is_covered, is_covered_beside}
use Rattle.heliport_surfaces.specs.Landings.{Landing, at_axis, primary_place, primary_side_heights}
use Rattle.heliport_surfaces.specs.Approaches.{Approach, approach_heights, approach_place, approach_side_heights, lateral_excess}
use Rattle.heliport_surfaces.specs.declared.rules.TheConstants.{APPROACH_LENGTH, APPROACH_WIDTH, RISE_SCALE}
use Rattle.heliport_surfaces.proofs.PlaceFacts.{IsRising, beside_in, covered_in}

pub width_fits : (w z : ℤ) → HasPadSizes w z → FitsSigned w64 w
width_fits w z h = omega (arith, ints, h.width_least, h.width_most)

pub slope_fits : (s : ℤ) → IsPadSlope s → FitsSigned w64 s
slope_fits s h = omega (arith, ints, h.slope_least, h.slope_most)

pub slope_size : (s : ℤ) → IsPadSlope s → unsigned_abs s ≤ 10
slope_size s h = omega (arith, ints, h.slope_least, h.slope_most)

pub growth_size : (g m : ℤ) → unsigned_abs g ≤ unsigned_abs APPROACH_WIDTH → unsigned_abs m ≤ 2 ^ 40 → unsigned_abs (g *ℤ m) ≤ 2 ^ 53
growth_size g m h k = omega (arith, abs_mul_le g m 5000 (2 ^ 40) h k)

pub sloped_size : (s p : ℤ) → IsPadSlope s → unsigned_abs p ≤ 2 ^ 57 → unsigned_abs (s *ℤ p) ≤ 10 * 2 ^ 57
sloped_size s p h k = abs_mul_le s p 10 (2 ^ 57) (slope_size s h) k

-- a number that is at least the root with a positive factor is positive
above_nothing : (a b : ℤ) (n : ℕ) → pos 0 <ℤ b → 0 < n → AtLeastRoot a b n → pos 0 <ℤ a
above_nothing a b n p l h =
    by_lt_z (pos 0) a
    (λ k. k)
    (λ k. absurd (omega (arith, ints, h.at_least, signed_square_le a (pos 0) k, mul-lt_right (signed_square (pos 0)) (signed_square b) n l (signed_square_lt (pos 0) b p))))

-- beside an approach surface and ahead of its end, both slopes rise
raised_up : (s o m w : ℤ) (n : ℕ) → IsPadSlope s → pos 0 <ℤ m → pos 0 <ℤ w → 0 < n → AtLeastRoot o (APPROACH_LENGTH *ℤ w) n → pos 0 <ℤ (s *ℤ o +ℤ RISE_SCALE *ℤ m)
raised_up s o m w n k h p l b =
    let up : pos 0 <ℤ o = above_nothing o (APPROACH_LENGTH *ℤ w) n (omega (arith, ints)) l b in
    let side : (s *ℤ pos 0) ≤ℤ (s *ℤ o) = mul-le_left s (pos 0) o (omega (arith, ints, k.slope_least)) (omega (arith, ints)) in
    omega (arith, ints, side, *ℤ-zero s)

pub at_axis_size : (w z : ℤ) → HasPadSizes w z → unsigned_abs (at_axis z w) ≤ 2 ^ 21
at_axis_size w z h = omega (arith, ints, h.width_least, h.width_most, h.z_size)

-- ---- the heights of the sloping surfaces rise where they cover the point
pub approach_rises : (a : Approach) (o : Offset) → HasPadSizes a.width a.z → IsPadSlope a.slope → is_covered (approach_place a o) ≡ true → IsRising (approach_heights a o)
unfolding approach_place approach_heights
approach_rises a o h k c =
    let ahead = (and_parts (int_lt (pos 0) o.along) (is_at_most_root o.along APPROACH_LENGTH o.square) (covered_in (approach_place a o) c).along).0 in
    let low : unsigned_abs a.z ≤ 2 ^ 25 = omega (arith, h.z_size) in
    record {
      positive = lt_in (pos 0) o.along ahead;
      rises = omega (arith, ints, k.slope_least);
      foot = rw unsigned_abs-mul (mul-le-mul_left (unsigned_abs a.slope) low);
    }

pub primary_side_rises : (l : Landing) (o : Offset) → HasPadSizes l.width l.z → 0 < o.square → is_covered_beside (primary_place l o) ≡ true → IsRising (primary_side_heights l o)
unfolding primary_place primary_side_heights
primary_side_rises l o h p c = record {
  positive = above_nothing (pos (2 * o.aside)) l.width o.square (omega (arith, ints, h.width_least)) p (beside_in (primary_place l o) c).not_inside;
  rises = omega (arith, ints);
  foot = omega (arith, at_axis_size l.width l.z h);
}

pub side_height_size : (s w z : ℤ) → IsPadSlope s → HasPadSizes w z → unsigned_abs (s *ℤ at_axis z w) ≤ 10 * 2 ^ 21
side_height_size s w z k h = abs_mul_le s (at_axis z w) 10 (2 ^ 21) (slope_size s k) (at_axis_size w z h)

pub approach_side_rises : (a : Approach) (o : Offset) → HasPadSizes a.width a.z → IsPadSlope a.slope → 0 < o.square → is_covered_beside (approach_place a o) ≡ true → IsRising (approach_side_heights a o)
unfolding approach_place approach_side_heights
approach_side_rises a o h k p c =
    let covered = beside_in (approach_place a o) c in
    let ahead = (and_parts (int_lt (pos 0) o.along) (is_at_most_root o.along APPROACH_LENGTH o.square) covered.along).0 in
    let tall = a.slope *ℤ at_axis a.z a.width in
    let foot : unsigned_abs (APPROACH_LENGTH *ℤ tall) ≤ 40000 * (10 * 2 ^ 21) = abs_mul_le APPROACH_LENGTH tall 40000 (10 * 2 ^ 21) (omega arith) (side_height_size a.slope a.width a.z k h) in
    record {
      positive = raised_up a.slope (lateral_excess a o) o.along a.width o.square k (lt_in (pos 0) o.along ahead) (omega (arith, ints, h.width_least)) p covered.not_inside;
      rises = omega (arith, ints, k.slope_least);
      foot = omega (arith, ints, k.slope_least, foot);
    }
