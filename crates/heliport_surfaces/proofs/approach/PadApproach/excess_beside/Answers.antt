use Rattle.std.proofs.Common.{FitsSigned, w64, to_z-of_z}
use Rattle.heliport_surfaces.specs.Approaches.{approach_place, approach_side_heights}
use Rattle.heliport_surfaces.specs.Places.{is_covered_beside}
use Rattle.heliport_surfaces.specs.Shapes.{approach_shape, place_shape, slope_heights}
use Rattle.heliport_surfaces.proofs.PlaceFacts.{slope_excess}
use Rattle.heliport_surfaces.proofs.approach.PadApproach.excess_beside.Goals as goal

pub returns : goal.returns
returns c =
    let s = approach_shape c.args.self.now in
    let o = c.args.at.now.offset in
    let ft : FitsSigned w64 c.args.top = c.ranges.top in
    slope_excess is_covered_beside (place_shape c.place.result) (approach_place s o) c.is_covered_beside.result (slope_heights c.side.result) (approach_side_heights s o) c.args.top c.excess.result
    c.place.ensures c.is_covered_beside.ensures c.if-not-is_covered_beside.false c.side.ensures c.excess.ensures.size (simp to_z-of_z at c.excess.ensures.excess)
