use Rattle.std.proofs.Common.{◌≡◌, FitsSigned, w64, to_z-of_z}
use Rattle.runway_notice.specs.NoticeAreas.{area_around}
use Rattle.runway_notice.proofs.area.ends_box.Goals as goal

pub returns : goal.returns
returns c =
    let r = c.args.runway.now in
    let fr : FitsSigned w64 c.args.radius = c.ranges.radius in
    let first : c.around.result ≡ area_around r.end1.at c.args.radius = simp to_z-of_z at c.around.ensures in
    let second : c.around-2.result ≡ area_around r.end2.at c.args.radius = simp to_z-of_z at c.around-2.ensures in
    rw (first, second) at c.joined.ensures.exact
