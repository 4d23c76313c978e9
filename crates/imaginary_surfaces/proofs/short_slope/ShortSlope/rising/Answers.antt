use Rattle.std.proofs.Common.{◌≡◌, FitsSigned, w64, to_z-of_z, arith}
use Rattle.std.specs.Int.{w128}
use Rattle.std.proofs.lemmas.Int.{ints}
use Rattle.grid_exact.proofs.SlopeLemmas.{IsSlope-small}
use Rattle.imaginary_surfaces.proofs.short_slope.ShortSlope.rising.Goals as goal

pub invariant_of-result-clause-sound : goal.invariant_of-result-clause-sound
invariant_of-result-clause-sound c =
    let fa : FitsSigned w128 c.args.a = c.ranges.a in
    let fk : FitsSigned w64 c.args.k = c.ranges.k in
    let fc : FitsSigned w128 c.args.c = c.ranges.c in
    let fs : FitsSigned w64 c.short.result = omega (arith, ints) in
    let ft : FitsSigned w64 c.short-2.result = omega (arith, ints) in
    let ea : c.short.result ≡ c.args.a = simp to_z-of_z at c.short.ensures in
    let ec : c.short-2.result ≡ c.args.c = simp to_z-of_z at c.short-2.ensures in
    simp to_z-of_z (rw (ea, ec) (IsSlope-small c.args.a c.args.k c.args.c c.args.n c.requires.positive c.requires.left c.requires.rises c.requires.k_size c.requires.c_size c.requires.root c.requires.n_size))
