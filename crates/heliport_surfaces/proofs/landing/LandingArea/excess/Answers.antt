use Rattle.std.proofs.Common.{FitsSigned, w64, to_z-of_z, arith}
use Rattle.std.proofs.lemmas.Int.{ints}
use Rattle.heliport_surfaces.specs.Landings.{primary_place}
use Rattle.heliport_surfaces.specs.Places.{is_covered}
use Rattle.heliport_surfaces.specs.Shapes.{landing_shape, place_shape}
use Rattle.heliport_surfaces.proofs.PlaceFacts.{height_excess}
use Rattle.heliport_surfaces.proofs.landing.LandingArea.excess.Goals as goal

pub returns : goal.returns
returns c =
    let z = c.args.self.now.z in
    let fz : FitsSigned w64 z = omega (arith, ints, c.args.self.now.sized.z_size) in
    let ft : FitsSigned w64 c.args.top = c.ranges.top in
    height_excess is_covered (place_shape c.place.result) (primary_place (landing_shape c.args.self.now) c.args.at.now.offset) c.is_covered.result z c.args.top c.flat_excess.result
    c.place.ensures c.is_covered.ensures c.if-not-is_covered.false c.flat_excess.ensures.size (simp to_z-of_z at c.flat_excess.ensures.excess)
