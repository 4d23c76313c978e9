use Rattle.std.proofs.Common.{◌<◌, ◌*ℤ◌, ◌-ℤ◌, FitsSigned, w64, to_z-of_z, arith, refl, ◌^◌}
use Rattle.grid_exact.specs.Level.{widest}
use Rattle.grid_exact.proofs.SlopeLemmas.{scaled_small, factor_at_most, factor_product}
use Rattle.imaginary_surfaces.proofs.RootFacts.{fits_64}
use Rattle.imaginary_surfaces.proofs.short_slope.ShortSlope.factor.Goals as goal

pub overflow_mul-result : goal.overflow_mul-result
overflow_mul-result c =
    let s = c.args.self.now in
    let small : widest s.k s.c < 2 ^ 63 = s.sound.factor in
    let fk : FitsSigned w64 s.k = fits_64 s.k (omega arith) in
    let fz : FitsSigned w64 c.args.z = c.ranges.z in
    simp to_z-of_z (fits_64 (s.k *ℤ c.args.z) (omega (arith, scaled_small s.k c.args.z c.requires)))

pub overflow_sub-result : goal.overflow_sub-result
overflow_sub-result c =
    let s = c.args.self.now in
    let small : widest s.k s.c < 2 ^ 63 = s.sound.factor in
    let fk : FitsSigned w64 s.k = fits_64 s.k (omega arith) in
    let fd : FitsSigned w64 s.c = fits_64 s.c (omega arith) in
    let fz : FitsSigned w64 c.args.z = c.ranges.z in
    let fp : FitsSigned w64 (s.k *ℤ c.args.z) = fits_64 (s.k *ℤ c.args.z) (omega (arith, scaled_small s.k c.args.z c.requires)) in
    simp to_z-of_z (fits_64 (s.k *ℤ c.args.z -ℤ s.c) (omega (arith, factor_at_most s.k s.c c.args.z c.requires)))

pub returns-clause-value : goal.returns-clause-value
returns-clause-value c =
    let s = c.args.self.now in
    let small : widest s.k s.c < 2 ^ 63 = s.sound.factor in
    let fk : FitsSigned w64 s.k = fits_64 s.k (omega arith) in
    let fd : FitsSigned w64 s.c = fits_64 s.c (omega arith) in
    let fz : FitsSigned w64 c.args.z = c.ranges.z in
    let fp : FitsSigned w64 (s.k *ℤ c.args.z) = fits_64 (s.k *ℤ c.args.z) (omega (arith, scaled_small s.k c.args.z c.requires)) in
    let fr : FitsSigned w64 (s.k *ℤ c.args.z -ℤ s.c) = fits_64 (s.k *ℤ c.args.z -ℤ s.c) (omega (arith, factor_at_most s.k s.c c.args.z c.requires)) in
    simp to_z-of_z refl

pub returns-clause-fits : goal.returns-clause-fits
returns-clause-fits c =
    let s = c.args.self.now in
    let small : widest s.k s.c < 2 ^ 63 = s.sound.factor in
    let fk : FitsSigned w64 s.k = fits_64 s.k (omega arith) in
    let fd : FitsSigned w64 s.c = fits_64 s.c (omega arith) in
    let fz : FitsSigned w64 c.args.z = c.ranges.z in
    let fp : FitsSigned w64 (s.k *ℤ c.args.z) = fits_64 (s.k *ℤ c.args.z) (omega (arith, scaled_small s.k c.args.z c.requires)) in
    let fr : FitsSigned w64 (s.k *ℤ c.args.z -ℤ s.c) = fits_64 (s.k *ℤ c.args.z -ℤ s.c) (omega (arith, factor_at_most s.k s.c c.args.z c.requires)) in
    simp to_z-of_z (factor_product s.k s.c c.args.z s.n s.sound.product c.requires)
