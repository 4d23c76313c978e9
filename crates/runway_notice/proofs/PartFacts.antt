-- Products of parts of vectors, and sums of two of them, in 64 bits.
use Rattle.std.proofs.Common.{◌≡◌, ℕ, ◌*◌, ◌≤◌, ◌<◌, ◌^◌, ℤ, ◌+ℤ◌, ◌-ℤ◌, unsigned_abs, FitsSigned, w64, of_z, to_z, to_z-of_z, arith, refl}
use Rattle.std.proofs.lemmas.Int.{ints, fits_signed_from_abs}
use Rattle.std.proofs.Math.Nat.{mul-le-mul}
use Rattle.grid_exact.proofs.Sizes.{short_product}

pub fits_64 : (z : ℤ) → unsigned_abs z < 2 ^ 63 → FitsSigned w64 z
fits_64 z h = fits_signed_from_abs w64 z h

pub square_size : (part : ℕ) → part ≤ 2 ^ 27 → part * part ≤ 2 ^ 54
square_size part h = let m : part * part ≤ 2 ^ 27 * 2 ^ 27 = mul-le-mul h h in omega (arith, m)

pub ruleset short = (to_z-of_z, short_product, fits_64, square_size)

pub sum_is : (p q : ℤ) → unsigned_abs p ≤ 2 ^ 54 → unsigned_abs q ≤ 2 ^ 54 → to_z w64 (of_z w64 (to_z w64 (of_z w64 p) +ℤ to_z w64 (of_z w64 q))) ≡ p +ℤ q
sum_is p q h k =
    let fp : FitsSigned w64 p = omega (arith, ints, h) in
    let fq : FitsSigned w64 q = omega (arith, ints, k) in
    let fs : FitsSigned w64 (p +ℤ q) = omega (arith, ints, h, k) in
    simp to_z-of_z refl

pub difference_is : (p q : ℤ) → unsigned_abs p ≤ 2 ^ 54 → unsigned_abs q ≤ 2 ^ 54 → to_z w64 (of_z w64 (to_z w64 (of_z w64 p) -ℤ to_z w64 (of_z w64 q))) ≡ p -ℤ q
difference_is p q h k =
    let fp : FitsSigned w64 p = omega (arith, ints, h) in
    let fq : FitsSigned w64 q = omega (arith, ints, k) in
    let fs : FitsSigned w64 (p -ℤ q) = omega (arith, ints, h, k) in
    simp to_z-of_z refl
