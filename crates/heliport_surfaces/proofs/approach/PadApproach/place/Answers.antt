use Rattle.std.proofs.Common.{pos, ◌*ℤ◌, FitsSigned, w64, to_z-of_z, arith}
use Rattle.std.specs.Prelude.{◌&&◌, int_lt}
use Rattle.std.specs.Int.{w128}
use Rattle.std.proofs.lemmas.Int.{ints}
use Rattle.grid_exact.specs.Excess.{is_at_most_root}
use Rattle.heliport_surfaces.specs.declared.rules.TheConstants.{APPROACH_LENGTH}
use Rattle.heliport_surfaces.specs.Approaches.{approach_place, lateral_excess}
use Rattle.heliport_surfaces.specs.Shapes.{approach_shape}
use Rattle.heliport_surfaces.proofs.PadSizes.{width_fits}
use Rattle.heliport_surfaces.proofs.PlaceFacts.{same_place}
use Rattle.heliport_surfaces.proofs.approach.PadApproach.place.Goals as goal

pub returns : goal.returns
unfolding approach_place
returns c =
    let w = c.args.self.now.width in
    let o = c.args.at.now.offset in
    let fo : FitsSigned w128 c.outside.result = omega (arith, ints) in
    let fp : FitsSigned w128 c.product.result = omega (arith, ints) in
    let fa : FitsSigned w128 c.aside.result = omega (arith, ints) in
    let fw : FitsSigned w64 w = width_fits w c.args.self.now.z c.args.self.now.sized in
    simp to_z-of_z
    (same_place c.is_ahead.result (int_lt (pos 0) o.along && is_at_most_root o.along APPROACH_LENGTH o.square) c.outside.result (lateral_excess (approach_shape c.args.self.now) o) c.product.result (APPROACH_LENGTH *ℤ w) c.aside.result (pos o.aside) c.square.result o.square
    c.is_ahead.ensures c.outside.ensures.value (simp to_z-of_z at c.product.ensures.value) c.aside.ensures.value c.square.ensures.value)
