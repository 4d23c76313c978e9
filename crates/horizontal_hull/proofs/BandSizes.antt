-- Sizes of what decides whether a point lies between the tangents of two arcs.
use Rattle.std.proofs.Common.{◌≡◌, ℕ, ℤ, pos, neg_ℤ, ◌+◌, ◌*◌, ◌^◌, ◌<◌, ◌≤◌, ◌+ℤ◌, ◌-ℤ◌, ◌*ℤ◌, unsigned_abs, arith, to_z-of_z, FitsSigned, w64}
use Rattle.std.specs.Int.{w128}
use Rattle.std.proofs.Math.Nat.{mul-le-mul}
use Rattle.std.proofs.lemmas.Int.{ints}
use Rattle.std.proofs.lemmas.Nat.{mul-le}
use Rattle.horizontal_hull.specs.declared.sizes.TheConstants.{CENTERS_APART, POINT_APART}
use Rattle.grid_exact.specs.Root.{ProductFits}
use Rattle.grid_exact.specs.Vector.{along_of, across_of, length_of}
use Rattle.grid_exact.proofs.IntLaws.{abs_neg}
use Rattle.grid_exact.proofs.Sizes.{abs_add_le, abs_sub_le, abs_mul_le}

pub along_size : (ex ey vx vy : ℤ) → unsigned_abs ex ≤ CENTERS_APART → unsigned_abs ey ≤ CENTERS_APART → unsigned_abs vx ≤ POINT_APART → unsigned_abs vy ≤ POINT_APART → unsigned_abs (along_of ex ey vx vy) ≤ 2 ^ 41
along_size ex ey vx vy h i j k = omega (arith, abs_add_le (ex *ℤ vx) (ey *ℤ vy), abs_mul_le ex vx CENTERS_APART POINT_APART h j, abs_mul_le ey vy CENTERS_APART POINT_APART i k)

pub across_size : (ex ey vx vy : ℤ) → unsigned_abs ex ≤ CENTERS_APART → unsigned_abs ey ≤ CENTERS_APART → unsigned_abs vx ≤ POINT_APART → unsigned_abs vy ≤ POINT_APART → unsigned_abs (across_of ex ey vx vy) ≤ 2 ^ 41
across_size ex ey vx vy h i j k = omega (arith, abs_sub_le (ex *ℤ vy) (ey *ℤ vx), abs_mul_le ex vy CENTERS_APART POINT_APART h k, abs_mul_le ey vx CENTERS_APART POINT_APART i j)

pub square_size : (ex ey : ℤ) → unsigned_abs ex ≤ CENTERS_APART → unsigned_abs ey ≤ CENTERS_APART → length_of ex ey ≤ 2 ^ 41
square_size ex ey h i = omega (arith, mul-le (unsigned_abs ex) (unsigned_abs ex) CENTERS_APART CENTERS_APART h h, mul-le (unsigned_abs ey) (unsigned_abs ey) CENTERS_APART CENTERS_APART i i)

pub ProductFits_near : (b : ℤ) (n : ℕ) → unsigned_abs b ≤ 2 ^ 42 → n ≤ 2 ^ 41 → ProductFits b n
ProductFits_near b n h k =
    let m : unsigned_abs b * unsigned_abs b * n ≤ 2 ^ 42 * 2 ^ 42 * 2 ^ 41 = mul-le-mul (mul-le-mul h h) k in
    record { product = omega arith }

pub fits_small : (z : ℤ) → unsigned_abs z ≤ 2 ^ 62 → FitsSigned w128 z
fits_small z h = omega (arith, ints)

pub ruleset bands = (to_z-of_z, ProductFits_near, fits_small, abs_neg, abs_sub_le, abs_add_le)
