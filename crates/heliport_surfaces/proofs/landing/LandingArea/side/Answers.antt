use Rattle.std.proofs.Common.{◌≡◌, ◌<◌, ◌*◌, pos, FitsSigned, w64, to_z-of_z, arith, ◌∙◌}
use Rattle.std.specs.Int.{w128}
use Rattle.std.proofs.lemmas.Int.{ints}
use Rattle.heliport_surfaces.specs.declared.rules.TheConstants.{SIDE_SLOPE}
use Rattle.heliport_surfaces.specs.Landings.{at_axis, primary_side_heights}
use Rattle.heliport_surfaces.specs.Shapes.{landing_shape}
use Rattle.heliport_surfaces.proofs.PadSizes.{primary_side_rises, width_fits}
use Rattle.heliport_surfaces.proofs.PlaceFacts.{same_heights}
use Rattle.heliport_surfaces.proofs.landing.LandingArea.side.Goals as goal

pub rising-requires-clause-positive : goal.rising-requires-clause-positive
unfolding primary_side_heights
rising-requires-clause-positive c =
    let l = landing_shape c.args.self.now in
    let o = c.args.at.now.offset in
    let some : 0 < o.square = rw c.square.ensures.value at c.square.ensures.some in
    let f : FitsSigned w128 c.twice_aside.result = omega (arith, ints) in
    simp to_z-of_z (rw c.twice_aside.ensures.value (primary_side_rises l o c.args.self.now.sized some c.requires.covered).positive)

pub returns : goal.returns
unfolding primary_side_heights
returns c =
    let l = landing_shape c.args.self.now in
    let o = c.args.at.now.offset in
    let r = c.rising.result in
    let fa : FitsSigned w128 c.twice_aside.result = omega (arith, ints) in
    let fb : FitsSigned w128 c.height_at_axis.result = omega (arith, ints) in
    let fw : FitsSigned w64 l.width = width_fits l.width l.z c.args.self.now.sized in
    let fz : FitsSigned w64 l.z = omega (arith, ints, c.args.self.now.sized.z_size) in
    let eb : c.height_at_axis.result ≡ at_axis l.z l.width = simp to_z-of_z at c.height_at_axis.ensures.value in
    same_heights r.a (pos (2 * o.aside)) r.k SIDE_SLOPE r.c (at_axis l.z l.width) r.n o.square
    ((simp to_z-of_z at c.rising.ensures.a) ∙ c.twice_aside.ensures.value) c.rising.ensures.k ((simp to_z-of_z at c.rising.ensures.c) ∙ eb) (c.rising.ensures.n ∙ c.square.ensures.value)
