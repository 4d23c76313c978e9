use Rattle.std.proofs.Common.{FitsSigned, w64, to_z-of_z}
use Rattle.std.proofs.lemmas.List.{take_all}
use Rattle.outline_boxes.specs.Boxes.{IsLeastBox}
use Rattle.runway_notice.specs.NoticeAreas.{HoldsEnds}
use Rattle.runway_notice.proofs.AreaFacts.{IsLeastSoFar, least_with_next}
use Rattle.runway_notice.proofs.area.runways_box.Goals as goal

pub loop-runway-preserved : goal.loop-runway-preserved
loop-runway-preserved c =
    let fr : FitsSigned w64 c.args.radius = c.ranges.radius in
    let b : IsLeastBox (HoldsEnds c.args.radius c.runway-item.result) c.ends_box.result = simp to_z-of_z at c.ends_box.ensures in
    let h : IsLeastSoFar c.args.radius c.args.runways.now c.loop-runway.runway-index c.loop-runway.least = simp to_z-of_z at c.loop-runway.invariant in
    simp to_z-of_z (least_with_next c.args.radius c.args.runways.now c.loop-runway.runway-index c.runway-item.result c.loop-runway.least c.ends_box.result c.joined-least.result
    c.loop-runway-test.true c.runway-item.is b h c.joined-least.ensures.exact)

pub returns : goal.returns
returns c =
    let fr : FitsSigned w64 c.args.radius = c.ranges.radius in
    let h : IsLeastSoFar c.args.radius c.args.runways.now c.loop-runway.runway-index c.loop-runway.least = simp to_z-of_z at c.loop-runway.invariant in
    record { holds = rw (take_all c.loop-runway.runway-index c.args.runways.now c.loop-runway-test.false) at h.holds; least = h.least }
