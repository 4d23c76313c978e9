-- The area of the slope of notice from the runways of an airport.
use Rattle.std.proofs.Common.{ℤ, pos, ◌≤ℤ◌, arith}
use Rattle.std.specs.List.{Contains}
use Rattle.std.proofs.lemmas.Int.{ints}
use Rattle.std.proofs.lemmas.List.Elements.{All-contains, All-weaker}
use Rattle.grid_exact.specs.declared.area.Area.{Area}
use Rattle.grid_exact.specs.declared.point.Point.{Point}
use Rattle.outline_boxes.specs.Boxes.{Encloses}
use Rattle.outline_boxes.proofs.More.{Encloses_through}
use Rattle.airfields.specs.Airfields.{IsHeldAirport}
use Rattle.airfields.specs.Runways.{HasNearEnds, IsNear}
use Rattle.airfields.specs.declared.airfield.Airport.{Airport}
use Rattle.airfields.specs.declared.runway.Runway.{Runway}
use Rattle.runway_notice.specs.NoticeAreas.{HoldsEnds, IsNoticeArea, area_around}
use Rattle.runway_notice.specs.Slopes.{range_of, sub_of}
use Rattle.runway_notice.specs.declared.slope.Sub.{Sub}
use Rattle.runway_notice.specs.declared.slope.Sub.TheVariants.{B1, B2}
use Rattle.airfield_findings.specs.Around.{around_point}
use Rattle.airfield_findings.proofs.BoxOrder.{around_less, around_near}

-- ---- the slope of notice goes 10,000 or 20,000 feet
range_least : (s : Sub) → pos 100000 ≤ℤ range_of s
range_least B1 = omega (arith, ints)
range_least B2 = omega (arith, ints)

range_most : (s : Sub) → range_of s ≤ℤ pos 200000
range_most B1 = omega (arith, ints)
range_most B2 = omega (arith, ints)

-- its area is about the first end of each runway
pub notice_about : (a : Airport) (box : Area) (r : Runway) → IsNoticeArea a box → Contains a.runways r → Encloses box (around_point r.end1.at.x r.end1.at.y (pos 88000))
notice_about a box r exact listed =
    let range = range_of (sub_of a.runways) in
    let ends : HoldsEnds range r box = All-contains (λ s. HoldsEnds range s box) a.runways r exact.runways_least.holds listed in
    let x = r.end1.at.x in
    let y = r.end1.at.y in
    Encloses_through box (around_point x y range) (around_point x y (pos 88000)) ends.first (around_less x y range (pos 88000) (omega (arith, ints, range_least (sub_of a.runways))))

-- and lies about the reference point
end_near : (arp at : Point) (range : ℤ) → IsNear arp at → range ≤ℤ pos 200000 → Encloses (around_point arp.x arp.y (pos 1048576)) (area_around at range)
end_near arp at range h l = around_near arp.x arp.y at.x at.y (pos 1048576) range (pos 400000) (omega (arith, ints, h.x)) (omega (arith, ints, h.y)) (omega (arith, ints, l))

pub notice_near : (a : Airport) (box : Area) → IsHeldAirport a → IsNoticeArea a box → Encloses (around_point a.arp.x a.arp.y (pos 1048576)) box
notice_near a box held exact =
    let range = range_of (sub_of a.runways) in
    let near = around_point a.arp.x a.arp.y (pos 1048576) in
    let most = range_most (sub_of a.runways) in
    exact.runways_least.least near
    (All-weaker (HasNearEnds a.arp) (λ r. HoldsEnds range r near)
    (λ (r : Runway) (h : HasNearEnds a.arp r). record { first = end_near a.arp r.end1.at range h.end1 most; second = end_near a.arp r.end2.at range h.end2 most })
    a.runways held.near)
