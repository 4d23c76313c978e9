use Rattle.std.proofs.Common.{pos, ◌*◌, FitsSigned, w64, to_z-of_z, arith, refl}
use Rattle.std.specs.Prelude.{◌&&◌, int_le}
use Rattle.std.specs.Int.{w128}
use Rattle.std.proofs.lemmas.Int.{ints}
use Rattle.grid_exact.proofs.Sizes.{widen}
use Rattle.heliport_surfaces.specs.Landings.{primary_place}
use Rattle.heliport_surfaces.proofs.PadSizes.{width_fits}
use Rattle.heliport_surfaces.proofs.PlaceFacts.{same_place}
use Rattle.heliport_surfaces.proofs.landing.LandingArea.place.Goals as goal

pub returns : goal.returns
unfolding primary_place
returns c =
    let w = c.args.self.now.width in
    let o = c.args.at.now.offset in
    let fo : FitsSigned w128 c.twice_aside.result = omega (arith, ints) in
    let fa : FitsSigned w128 c.aside.result = omega (arith, ints) in
    let fw : FitsSigned w64 w = width_fits w c.args.self.now.z c.args.self.now.sized in
    let fx : FitsSigned w128 w = widen w fw in
    simp to_z-of_z
    (same_place c.is_between_ends.result (int_le (pos 0) o.along && int_le o.along (pos o.square)) c.twice_aside.result (pos (2 * o.aside)) w w c.aside.result (pos o.aside) c.square.result o.square
    c.is_between_ends.ensures c.twice_aside.ensures.value refl c.aside.ensures.value c.square.ensures.value)
