use Rattle.std.proofs.Common.{◌<◌, ◌*ℤ◌, FitsSigned, w64, to_z-of_z, arith, ◌∙◌}
use Rattle.std.specs.Int.{w128}
use Rattle.std.proofs.lemmas.Int.{ints}
use Rattle.heliport_surfaces.specs.declared.rules.TheConstants.{APPROACH_LENGTH, RISE_SCALE}
use Rattle.heliport_surfaces.specs.Approaches.{approach_side_heights, rise_at}
use Rattle.heliport_surfaces.specs.Landings.{at_axis}
use Rattle.heliport_surfaces.specs.Shapes.{approach_shape}
use Rattle.heliport_surfaces.proofs.PadSizes.{approach_side_rises}
use Rattle.heliport_surfaces.proofs.PlaceFacts.{same_heights}
use Rattle.heliport_surfaces.proofs.approach.PadApproach.side.Goals as goal

pub rising_short-requires-clause-positive : goal.rising_short-requires-clause-positive
unfolding approach_side_heights
rising_short-requires-clause-positive c =
    let a = approach_shape c.args.self.now in
    let o = c.args.at.now.offset in
    let f : FitsSigned w128 c.raised.result = omega (arith, ints) in
    let some : 0 < o.square = rw c.square.ensures.value at c.square.ensures.some in
    simp to_z-of_z (rw c.raised.ensures.value (approach_side_rises a o c.args.self.now.sized c.args.self.now.sloped some c.requires.covered).positive)

pub returns : goal.returns
unfolding approach_side_heights
returns c =
    let a = approach_shape c.args.self.now in
    let o = c.args.at.now.offset in
    let r = c.rising_short.result in
    let fa : FitsSigned w128 c.raised.result = omega (arith, ints) in
    let fk : FitsSigned w64 c.steepness.result = omega (arith, ints, c.steepness.ensures.size) in
    let fc : FitsSigned w128 c.foot.result = omega (arith, ints) in
    same_heights r.a (rise_at a o) r.k (RISE_SCALE *ℤ a.slope) r.c (APPROACH_LENGTH *ℤ (a.slope *ℤ at_axis a.z a.width)) r.n o.square
    ((simp to_z-of_z at c.rising_short.ensures.a) ∙ c.raised.ensures.value) ((simp to_z-of_z at c.rising_short.ensures.k) ∙ c.steepness.ensures.value)
    ((simp to_z-of_z at c.rising_short.ensures.c) ∙ c.foot.ensures.value) (c.rising_short.ensures.n ∙ c.square.ensures.value)
