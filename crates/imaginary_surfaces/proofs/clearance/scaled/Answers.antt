use Rattle.std.proofs.Common.{ℤ, ◌≤◌, ◌*◌, ◌^◌, ◌*ℤ◌, unsigned_abs, FitsSigned, w64, to_z-of_z, arith, refl}
use Rattle.std.proofs.lemmas.Int.{unsigned_abs-mul}
use Rattle.std.proofs.lemmas.Nat.{mul-le}
use Rattle.imaginary_surfaces.proofs.RootFacts.{fits_64}
use Rattle.imaginary_surfaces.proofs.clearance.scaled.Goals as goal

scaled_fits : (f l : ℤ) → unsigned_abs f ≤ 2 ^ 36 → unsigned_abs l ≤ 2 ^ 19 → FitsSigned w64 (f *ℤ l)
scaled_fits f l h k =
    let m : unsigned_abs f * unsigned_abs l ≤ 2 ^ 36 * 2 ^ 19 = mul-le (unsigned_abs f) (unsigned_abs l) (2 ^ 36) (2 ^ 19) h k in
    fits_64 (f *ℤ l) (rw unsigned_abs-mul (omega (arith, m)))

pub overflow_mul-result : goal.overflow_mul-result
overflow_mul-result c =
    let ff : FitsSigned w64 c.args.factor = c.ranges.factor in
    let fl : FitsSigned w64 c.args.length = c.ranges.length in
    simp to_z-of_z (scaled_fits c.args.factor c.args.length c.requires.factor c.requires.length)

pub returns : goal.returns
returns c =
    let ff : FitsSigned w64 c.args.factor = c.ranges.factor in
    let fl : FitsSigned w64 c.args.length = c.ranges.length in
    let fp : FitsSigned w64 (c.args.factor *ℤ c.args.length) = scaled_fits c.args.factor c.args.length c.requires.factor c.requires.length in
    simp to_z-of_z refl
