-- For proofs alone: a slope is reached at every level above one that reaches it.
use Rattle.std.specs.Prelude.{ℤ, pos, ◌-ℤ◌, ◌≤ℤ◌, ◌<ℤ◌, unsigned_abs}
use Rattle.std.proofs.Common.{◌≤◌, ◌*◌, arith}
use Rattle.std.proofs.Math.Nat.{mul-le-mul, mul-le-mul_right}
use Rattle.std.proofs.lemmas.Int.{ints}
use Rattle.grid_exact.specs.Laws.{mul-le_left}
use Rattle.runway_notice.specs.Distances.{Fraction, IsAtLeastRootOf, IsAboveRootOf, run_of}

pub at_least_more : (d : Fraction) (b c : ℤ) → b ≤ℤ c → IsAtLeastRootOf d b → IsAtLeastRootOf d c
at_least_more d b c h k =
    let s : unsigned_abs b ≤ unsigned_abs c = omega (arith, ints, h, k.not_negative) in
    let m : unsigned_abs b * unsigned_abs b * d.whole ≤ unsigned_abs c * unsigned_abs c * d.whole = mul-le-mul_right d.whole (mul-le-mul s s) in
    record { not_negative = omega (arith, ints, h, k.not_negative); square = omega (arith, m, k.square) }

pub slope_rises : (d : Fraction) (ratio base y z : ℤ) → pos 0 <ℤ ratio → y ≤ℤ z → IsAtLeastRootOf d (run_of ratio base y) → IsAtLeastRootOf d (run_of ratio base z)
slope_rises d ratio base y z p h k = at_least_more d (run_of ratio base y) (run_of ratio base z) (mul-le_left ratio (y -ℤ base) (z -ℤ base) p (omega (arith, ints, h))) k

pub above_reaches : (d : Fraction) (b : ℤ) → IsAboveRootOf d b → IsAtLeastRootOf d b
above_reaches d b h = record { not_negative = h.not_negative; square = omega (arith, h.square) }
