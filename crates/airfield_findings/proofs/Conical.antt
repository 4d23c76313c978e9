-- The boxes of the horizontal and the conical surface of an airport.
use Rattle.std.proofs.Common.{ℕ, pos, ◌+ℤ◌, arith, List, [], ◌∷◌, Bool, true, false, if◌then◌else◌}
use Rattle.std.specs.List.{All, flat_map}
use Rattle.std.proofs.lemmas.Int.{ints}
use Rattle.std.proofs.lemmas.List.Elements.{All-cons, All-head, All-nil, All-tail, All-weaker}
use Rattle.grid_exact.specs.declared.area.Area.{Area}
use Rattle.grid_exact.specs.declared.point.Point.{Point}
use Rattle.outline_boxes.specs.Boxes.{Encloses, IsLeastBox}
use Rattle.outline_boxes.proofs.More.{Encloses_through}
use Rattle.airfields.specs.Airfields.{IsHeldAirport}
use Rattle.airfields.specs.Categories.{has_civil_surfaces}
use Rattle.airfields.specs.declared.airfield.Airport.{Airport}
use Rattle.airfields.specs.declared.runway.Runway.{Runway}
use Rattle.runway_lines.specs.Ends.{center_x, center_y, end_of}
use Rattle.runway_lines.specs.declared.end.End.{End}
use Rattle.runway_lines.specs.declared.end.End.TheVariants.{One, Two}
use Rattle.horizontal_hull.specs.Arcs.{ArcShape, arc, arcs_of, arcs_of_runway, dome_of}
use Rattle.horizontal_hull.specs.Areas.{AreHullAreas, HoldsDiscs, disc_box}
use Rattle.horizontal_hull.specs.Close.{IsNearReference}
use Rattle.horizontal_hull.specs.declared.areas.HullAreas.{HullAreas}
use Rattle.horizontal_hull.specs.declared.sizes.TheConstants.{CONICAL_RUN}
use Rattle.horizontal_hull.proofs.ArcFacts.{arcs_near}
use Rattle.airfield_findings.specs.Around.{around_point}
use Rattle.airfield_findings.proofs.BoxOrder.{around_near}
use Rattle.airfield_findings.proofs.Centers.{center_at, conical_reach, reach_least}

-- ---- an airport with these boxes has arcs: without any, each box would have to lie in each other
none_least : (c : ℕ) (box : Area) → IsLeastBox (HoldsDiscs [] c) box → ⊥
none_least c box h =
    let o : Area = record { x0 = box.x0 +ℤ pos 1; y0 = box.y0; x1 = box.x1; y1 = box.y1 } in
    let e = h.least o (All-nil (λ a. Encloses o (disc_box c a))) in
    omega (arith, ints, e.west)

civil_arcs : (civil : Bool) (arcs : List ArcShape) (hull : HullAreas) → AreHullAreas (if civil then arcs else []) hull → AreHullAreas arcs hull
civil_arcs true arcs hull h = h
civil_arcs false arcs hull h = absurd (none_least CONICAL_RUN hull.conical h.conical_least)

pub runway_arcs : (a : Airport) (hull : HullAreas) → AreHullAreas (dome_of a).arcs hull → AreHullAreas (flat_map arcs_of_runway a.runways) hull
unfolding dome_of
runway_arcs a hull h = civil_arcs (has_civil_surfaces a.category) (flat_map arcs_of_runway a.runways) hull h

-- ---- the box of the conical surface encloses the discs about both centers of each runway
pub record HasDiscs (hull : Area) (r : Runway) : Type 0 where
  pub first : Encloses hull (around_point (center_x r One) (center_y r One) (conical_reach r))
  pub second : Encloses hull (around_point (center_x r Two) (center_y r Two) (conical_reach r))

pub disc_about : (hull : Area) (r : Runway) (end : End) → HasDiscs hull r → Encloses hull (around_point (center_x r end) (center_y r end) (conical_reach r))
disc_about hull r One h = h.first
disc_about hull r Two h = h.second

discs_of : (hull : Area) (runways : List Runway) → HoldsDiscs (flat_map arcs_of_runway runways) CONICAL_RUN hull → All (HasDiscs hull) runways
discs_of hull [] h = All-nil (HasDiscs hull)
discs_of hull (r ∷ rs) h =
    let P : ArcShape → Type 0 = λ a. Encloses hull (disc_box CONICAL_RUN a) in
    let rest = flat_map arcs_of_runway rs in
    let more : All P (arc r Two ∷ rest) = All-tail P (arc r One) (arc r Two ∷ rest) h in
    All-cons (HasDiscs hull) r rs
    (record { first = All-head P (arc r One) (arc r Two ∷ rest) h; second = All-head P (arc r Two) rest more })
    (discs_of hull rs (All-tail P (arc r Two) rest more))

pub conical_about : (a : Airport) (hull : HullAreas) → AreHullAreas (dome_of a).arcs hull → All (HasDiscs hull.conical) a.runways
conical_about a hull h = discs_of hull.conical a.runways (runway_arcs a hull h).conical_least.holds

-- so it is about the ends of the runway
pub conical_about_end : (hull : Area) (r : Runway) (end : End) → HasDiscs hull r → Encloses hull (around_point (end_of r end).at.x (end_of r end).at.y (pos 88000))
conical_about_end hull r end h =
    let x = center_x r end in
    let y = center_y r end in
    let at = (end_of r end).at in
    let c = center_at r end in
    Encloses_through hull (around_point x y (conical_reach r)) (around_point at.x at.y (pos 88000)) (disc_about hull r end h)
    (around_near x y at.x at.y (conical_reach r) (pos 88000) (pos 2000) (omega (arith, ints, c.x_close)) (omega (arith, ints, c.y_close)) (omega (arith, ints, reach_least r)))

-- ---- it encloses the box of the horizontal surface
disc_more : (a : ArcShape) → Encloses (disc_box CONICAL_RUN a) (disc_box 0 a)
disc_more a = record { west = omega (arith, ints); south = omega (arith, ints); east = omega (arith, ints); north = omega (arith, ints) }

pub horizontal_in : (arcs : List ArcShape) (hull : HullAreas) → AreHullAreas arcs hull → Encloses hull.conical hull.horizontal
horizontal_in arcs hull h =
    let c = hull.conical in
    h.horizontal_least.least c
    (All-weaker (λ a. Encloses c (disc_box CONICAL_RUN a)) (λ a. Encloses c (disc_box 0 a)) (λ a k. Encloses_through c (disc_box CONICAL_RUN a) (disc_box 0 a) k (disc_more a)) arcs h.conical_least.holds)

-- ---- and lies about the reference point
disc_near : (arp : Point) (a : ArcShape) → IsNearReference arp a → Encloses (around_point arp.x arp.y (pos 1048576)) (disc_box CONICAL_RUN a)
disc_near arp a h = record {
  west = omega (arith, ints, h.x, h.radius);
  south = omega (arith, ints, h.y, h.radius);
  east = omega (arith, ints, h.x, h.radius);
  north = omega (arith, ints, h.y, h.radius);
}

pub conical_near : (a : Airport) (hull : HullAreas) → IsHeldAirport a → AreHullAreas (dome_of a).arcs hull → Encloses (around_point a.arp.x a.arp.y (pos 1048576)) hull.conical
unfolding dome_of
conical_near a hull held h =
    let near = around_point a.arp.x a.arp.y (pos 1048576) in
    h.conical_least.least near (All-weaker (IsNearReference a.arp) (λ s. Encloses near (disc_box CONICAL_RUN s)) (disc_near a.arp) (arcs_of a) (arcs_near a held.near))
