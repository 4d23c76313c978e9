use Rattle.std.proofs.Common.{◌≡◌, ◌*ℤ◌, FitsSigned, w64, to_z-of_z, arith, ◌∙◌}
use Rattle.std.specs.Int.{w128}
use Rattle.std.proofs.lemmas.Int.{ints}
use Rattle.heliport_surfaces.specs.Approaches.{approach_heights}
use Rattle.heliport_surfaces.specs.Shapes.{approach_shape}
use Rattle.heliport_surfaces.proofs.PadSizes.{approach_rises, slope_fits}
use Rattle.heliport_surfaces.proofs.PlaceFacts.{same_heights}
use Rattle.heliport_surfaces.proofs.approach.PadApproach.heights.Goals as goal

pub rising-requires-clause-positive : goal.rising-requires-clause-positive
unfolding approach_heights
rising-requires-clause-positive c =
    let a = approach_shape c.args.self.now in
    let o = c.args.at.now.offset in
    let f : FitsSigned w128 c.along.result = omega (arith, ints) in
    simp to_z-of_z (rw c.along.ensures.value (approach_rises a o c.args.self.now.sized c.args.self.now.sloped c.requires.covered).positive)

pub returns : goal.returns
unfolding approach_heights
returns c =
    let s = c.args.self.now.slope in
    let z = c.args.self.now.z in
    let r = c.rising.result in
    let fm : FitsSigned w128 c.along.result = omega (arith, ints) in
    let fs : FitsSigned w64 s = slope_fits s c.args.self.now.sloped in
    let fz : FitsSigned w64 z = omega (arith, ints, c.args.self.now.sized.z_size) in
    let fp : FitsSigned w128 c.product.result = omega (arith, ints) in
    let ep : c.product.result ≡ s *ℤ z = simp to_z-of_z at c.product.ensures.value in
    same_heights r.a c.args.at.now.offset.along r.k s r.c (s *ℤ z) r.n c.args.at.now.offset.square
    ((simp to_z-of_z at c.rising.ensures.a) ∙ c.along.ensures.value) (simp to_z-of_z at c.rising.ensures.k) ((simp to_z-of_z at c.rising.ensures.c) ∙ ep) (c.rising.ensures.n ∙ c.square.ensures.value)
