use Rattle.std.proofs.Common.{◌≡◌, ◌∙◌, ap, length, None, Some, true, false, FitsSigned, w64, to_z-of_z, arith}
use Rattle.std.proofs.lemmas.Int.{ints}
use Rattle.outline_boxes.specs.Boxes.{IsLeastBox}
use Rattle.runway_notice.specs.NoticeAreas.{HoldsRunways}
use Rattle.runway_notice.specs.Slopes.{range_of, sub_of}
use Rattle.runway_notice.proofs.AreaFacts.{CoverSlopes, area_covers, area_skips, none_listed, same_box}
use Rattle.runway_notice.proofs.area.notice_area.Goals as goal
use Rattle.runway_notice.proofs.area.notice_area.Goals.{After-runways_box}

pub returns-then-not-described-clause-skips : goal.returns-then-not-described-clause-skips
returns-then-not-described-clause-skips c =
    area_skips c.args.a.now None
    (λ r x k i. let t : c.described.result ≡ true = c.described.ensures ∙ i.described in let f : c.described.result ≡ false = c.if-not-described.true in cc)

pub returns-then-is_empty-clause-skips : goal.returns-then-is_empty-clause-skips
returns-then-is_empty-clause-skips c =
    let none : length c.as_slice-runways.result.now ≡ 0 = grind (arith, c.is_empty.ensures, c.if-is_empty.true) in
    area_skips c.args.a.now None (λ r x k i. none_listed c.as_slice-runways.result.now c.args.a.now.runways r none c.as_slice-runways.ensures.value k)

-- the box is that of the airport's own runways
covered : (c : After-runways_box) → CoverSlopes c.args.a.now (Some c.runways_box.result)
covered c =
    let a = c.args.a.now in
    let fr : FitsSigned w64 c.range.result = omega (arith, ints) in
    let b : IsLeastBox (HoldsRunways c.range.result c.as_slice-runways.result.now) c.runways_box.result = simp to_z-of_z at c.runways_box.ensures in
    area_covers a c.runways_box.result c.requires.held
    (same_box c.range.result (range_of (sub_of a.runways)) c.as_slice-runways.result.now a.runways c.runways_box.result (c.range.ensures ∙ ap range_of c.sub_of.ensures) c.as_slice-runways.ensures.value b)

pub returns-clause-covers : goal.returns-clause-covers
returns-clause-covers c = covered c

pub returns-clause-skips : goal.returns-clause-skips
returns-clause-skips c = area_skips c.args.a.now (Some c.runways_box.result) (covered c)
