use Rattle.std.proofs.Common.{◌≡◌, ◌*ℤ◌, FitsSigned, w64, to_z-of_z, arith, ◌∙◌}
use Rattle.std.specs.Int.{w128}
use Rattle.std.specs.Prelude.{⊤}
use Rattle.std.proofs.lemmas.Int.{ints}
use Rattle.grid_exact.specs.Excess.{IsExcess, root_surface}
use Rattle.grid_exact.proofs.ExcessLemmas.{IsExcess-covered}
use Rattle.imaginary_surfaces.specs.Approaches.{approach_at, slope_at, base_at}
use Rattle.imaginary_surfaces.specs.Shapes.{approach_shape}
use Rattle.imaginary_surfaces.proofs.Sound.{base_product}
use Rattle.imaginary_surfaces.proofs.approach.ApproachSurface.excess_along.Goals as goal

pub rising-requires-clause-c_size : goal.rising-requires-clause-c_size
rising-requires-clause-c_size c =
    let s = c.rise-rise.result.slope in
    let b = c.rise-rise.result.base in
    let rises = c.rise-rise.result.rises in
    let fs : FitsSigned w64 s = omega (arith, ints, rises.rises, rises.slope_most) in
    let fb : FitsSigned w64 b = omega (arith, ints, rises.base_size) in
    let fp : FitsSigned w128 c.product-base.result = omega (arith, ints) in
    let e : c.product-base.result ≡ s *ℤ b = simp to_z-of_z at c.product-base.ensures.value in
    simp to_z-of_z (rw e (base_product s b rises))

pub returns-clause-exact : goal.returns-clause-exact
returns-clause-exact c =
    let shape = approach_shape c.args.self.now in
    let o = c.args.at.now in
    let s = c.rise-rise.result.slope in
    let b = c.rise-rise.result.base in
    let rises = c.rise-rise.result.rises in
    let ft : FitsSigned w64 c.args.top = c.ranges.top in
    let fs : FitsSigned w64 s = omega (arith, ints, rises.rises, rises.slope_most) in
    let fb : FitsSigned w64 b = omega (arith, ints, rises.base_size) in
    let fp : FitsSigned w128 c.product-base.result = omega (arith, ints) in
    let fa : FitsSigned w128 c.along.result = omega (arith, ints) in
    let ea : c.rising.result.a ≡ o.along = (simp to_z-of_z at c.rising.ensures.a) ∙ c.along.ensures.value in
    let ek : c.rising.result.k ≡ slope_at shape o = (simp to_z-of_z at c.rising.ensures.k) ∙ c.rise-rise.ensures.slope in
    let ep : c.product-base.result ≡ s *ℤ b = simp to_z-of_z at c.product-base.ensures.value in
    let eb : s *ℤ b ≡ slope_at shape o *ℤ base_at shape o = rw (c.rise-rise.ensures.slope, c.rise-rise.ensures.base) in
    let ec : c.rising.result.c ≡ slope_at shape o *ℤ base_at shape o = (simp to_z-of_z at c.rising.ensures.c) ∙ (ep ∙ eb) in
    let en = c.rising.ensures.n ∙ c.square.ensures.value in
    let h : IsExcess (root_surface ⊤ c.rising.result.a c.rising.result.k c.rising.result.c c.rising.result.n) c.args.top c.excess_over.result = simp to_z-of_z at c.excess_over.ensures.excess in
    IsExcess-covered (approach_at shape o) c.args.top c.excess_over.result (c.covers.ensures.0 c.if-not-covers.false) (rw (ea, ek, ec, en) at h)
