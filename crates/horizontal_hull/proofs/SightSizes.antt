-- How far beside the line of two centers a tangent passes a point: its size, as it is computed.
use Rattle.std.proofs.Common.{◌≡◌, ℕ, ℤ, pos, ◌+◌, ◌*◌, ◌^◌, ◌<◌, ◌≤◌, ◌+ℤ◌, unsigned_abs, arith, refl, FitsSigned, w64, to_z, of_z, to_z-of_z}
use Rattle.std.proofs.Math.Nat.{mul-le-mul}
use Rattle.std.proofs.lemmas.Int.{ints, to_z_pos}
use Rattle.horizontal_hull.specs.declared.sizes.TheConstants.{ARC_MOST, CONICAL_RUN}

-- a radius raised, times the square of the distance between the centers
raised_size : (m c s : ℕ) → m ≤ ARC_MOST → c ≤ CONICAL_RUN → s ≤ 2 ^ 41 → (m + c) * s ≤ 2 ^ 18 * 2 ^ 41
raised_size m c s h k l = mul-le-mul (raised m c h k) l
  where
    raised : (m c : ℕ) → m ≤ ARC_MOST → c ≤ CONICAL_RUN → m + c ≤ 2 ^ 18
    raised m c h k = omega (arith, h, k)

pub record IsWidth (m c s : ℕ) (z : ℤ) : Type 0 where
  pub fits : FitsSigned w64 (to_z w64 ((m + c) * s) +ℤ to_z w64 (of_z w64 z))
  pub value : to_z w64 (of_z w64 (to_z w64 ((m + c) * s) +ℤ to_z w64 (of_z w64 z))) ≡ pos ((m + c) * s) +ℤ z
  pub size : unsigned_abs (pos ((m + c) * s) +ℤ z) < 2 ^ 62

pub width_size : (m c s : ℕ) (z : ℤ) → m ≤ ARC_MOST → c ≤ CONICAL_RUN → s ≤ 2 ^ 41 → unsigned_abs z ≤ 2 ^ 58 → IsWidth m c s z
width_size m c s z h k l j =
    let r = raised_size m c s h k l in
    let p : to_z w64 ((m + c) * s) ≡ pos ((m + c) * s) = to_z_pos w64 ((m + c) * s) (omega (arith, r)) in
    let fz : FitsSigned w64 z = omega (arith, ints, j) in
    let fs : FitsSigned w64 (pos ((m + c) * s) +ℤ z) = omega (arith, ints, j, r) in
    record { fits = rw p (simp to_z-of_z fs); value = rw p (simp to_z-of_z refl); size = omega (arith, ints, j, r) }
