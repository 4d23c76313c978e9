-- Sizes of slopes, and levels that do not reach them.
use Rattle.std.proofs.Common.{ℤ, pos, ◌≤◌, ◌^◌, ◌-ℤ◌, ◌≤ℤ◌, ◌<ℤ◌, unsigned_abs, arith}
use Rattle.std.proofs.lemmas.Int.{ints, by_lt_z}
use Rattle.grid_exact.specs.Level.{IsLevel}
use Rattle.grid_exact.proofs.Sizes.{abs_mul_le}
use Rattle.runway_notice.specs.Distances.{Fraction, IsAtLeastRootOf, IsSlopeFrom, run_of}
use Rattle.runway_notice.specs.Laws.{slope_rises}
use Rattle.runway_notice.specs.declared.slope.TheConstants.{RATIO_B1}

pub run_size : (ratio base level : ℤ) → IsSlopeFrom base ratio → IsLevel level → unsigned_abs (run_of ratio base level) ≤ 2 ^ 40
run_size ratio base level s l =
    let a : unsigned_abs ratio ≤ unsigned_abs RATIO_B1 = omega (arith, ints, s.rises, s.ratio_size) in
    let b : unsigned_abs (level -ℤ base) ≤ 2 ^ 26 = omega (arith, ints, s.base_size, l.low, l.high) in
    omega (arith, abs_mul_le ratio (level -ℤ base) (unsigned_abs RATIO_B1) (2 ^ 26) a b)

-- where a level does not reach the slope, none up to it does
pub none_under : (d : Fraction) (ratio base g z : ℤ) → pos 0 <ℤ ratio → (IsAtLeastRootOf d (run_of ratio base (g -ℤ pos 1)) → ⊥) → IsAtLeastRootOf d (run_of ratio base z) → g ≤ℤ z
none_under d ratio base g z p missed h = by_lt_z (g -ℤ pos 1) z (λ l. omega (arith, ints, l)) (λ l. absurd (missed (slope_rises d ratio base z (g -ℤ pos 1) p l h)))
