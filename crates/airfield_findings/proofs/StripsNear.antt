-- The areas of the surfaces of an airport lie about its reference point.
use Rattle.std.proofs.Common.{ℤ, pos, ◌+ℤ◌, ◌*ℤ◌, ◌≤ℤ◌, arith, List, [], ◌∷◌, ◌++◌, inl, inr}
use Rattle.std.specs.List.{All}
use Rattle.std.proofs.lemmas.Bool.{cases_Bool}
use Rattle.std.proofs.lemmas.Int.{ints}
use Rattle.std.proofs.lemmas.List.Elements.{All-append, All-cons, All-head, All-nil, All-same, All-tail}
use Rattle.grid_exact.specs.declared.area.Area.{Area}
use Rattle.grid_exact.specs.declared.point.Point.{Point}
use Rattle.outline_boxes.specs.Boxes.{Encloses}
use Rattle.outline_boxes.specs.Rectangles.{HasRectangle}
use Rattle.outline_boxes.specs.Trapezoids.{HasTrapezoid}
use Rattle.outline_boxes.proofs.More.{Encloses_through}
use Rattle.airfields.specs.Airfields.{IsHeldAirport}
use Rattle.airfields.specs.Runways.{HasNearEnds, IsProper}
use Rattle.airfields.specs.declared.airfield.Airport.{Airport}
use Rattle.airfields.specs.declared.runway.Runway.{Runway}
use Rattle.runway_lines.specs.Ends.{center_x, center_y}
use Rattle.runway_lines.specs.declared.end.End.{End}
use Rattle.runway_lines.specs.declared.end.End.TheVariants.{One, Two}
use Rattle.imaginary_surfaces.specs.Areas.{AreStripAreas, HoldsBeside, approach_outline, in_order, primary_outline}
use Rattle.imaginary_surfaces.specs.Strips.{approach_of, primary_of}
use Rattle.imaginary_surfaces.proofs.AreaFacts.{outline_sized}
use Rattle.imaginary_surfaces.proofs.Sound.{approach_sound, primary_wide}
use Rattle.horizontal_hull.specs.Arcs.{dome_of}
use Rattle.airfield_findings.specs.Areas.{AreRunwayAreas, HaveSurfaces}
use Rattle.airfield_findings.specs.Around.{around_point}
use Rattle.airfield_findings.proofs.BoxOrder.{around_near, end_around}
use Rattle.airfield_findings.proofs.Centers.{center_near}
use Rattle.airfield_findings.proofs.Conical.{conical_near, horizontal_in}
use Rattle.airfield_findings.proofs.CornersIn.{rectangle_in, trapezoid_in}
use Rattle.airfield_findings.proofs.SixAreas.{all_six}

-- ---- about a center, still in the box about the reference point
center_in : (arp : Point) (r : Runway) (end : End) → HasNearEnds arp r → Encloses (around_point arp.x arp.y (pos 1048576)) (around_point (center_x r end) (center_y r end) (pos 630000))
center_in arp r end h =
    let c = center_near arp r end h in
    around_near arp.x arp.y (center_x r end) (center_y r end) (pos 1048576) (pos 630000) (pos 402000) (omega (arith, ints, c.x_near)) (omega (arith, ints, c.y_near)) (omega (arith, ints))

-- ---- a box about both centers has the primary surface
pub primary_in : (r : Runway) (reach : ℤ) (a : Area) → pos 5000 ≤ℤ reach → Encloses a (around_point (center_x r One) (center_y r One) reach) → Encloses a (around_point (center_x r Two) (center_y r Two) reach) → HasRectangle (primary_outline (primary_of r)) a
unfolding primary_of
primary_in r reach a l h k =
    let w = primary_wide r in
    rectangle_in (primary_outline (primary_of r)) reach a (omega (arith, ints)) (omega (arith, ints, w.least)) (omega (arith, ints, w.most, l)) h (end_around a (center_x r One) (center_y r One) (center_x r Two) (center_y r Two) reach k)

-- ---- and one about a center the approach surface there
pub approach_in : (r : Runway) (end : End) (margin reach : ℤ) (a : Area) → IsProper r → pos 0 ≤ℤ margin → margin ≤ℤ pos 2000000 →
    (pos 40 *ℤ (approach_of r end).class.length +ℤ pos 20 *ℤ (approach_of r end).class.outer +ℤ margin) ≤ℤ (pos 40 *ℤ reach) →
    Encloses a (around_point (center_x r end) (center_y r end) reach) → HasTrapezoid (approach_outline (approach_of r end) margin) a
unfolding approach_of
approach_in r end margin reach a p low high fit h =
    let o = approach_of r end in
    let s = outline_sized o.width o.z margin o.class (approach_sound r end p) low high in
    trapezoid_in (approach_outline o margin) reach a s.scale_least s.near_least s.near_most (omega (arith, ints, s.length_least)) (omega (arith, ints, fit)) h

approach_near : (arp : Point) (r : Runway) (end : End) (margin : ℤ) → IsProper r → HasNearEnds arp r → pos 0 ≤ℤ margin → margin ≤ℤ pos 2000000 → HasTrapezoid (approach_outline (approach_of r end) margin) (around_point arp.x arp.y (pos 1048576))
approach_near arp r end margin p h low high =
    let s = (approach_sound r end p).sized in
    approach_in r end margin (pos 630000) (around_point arp.x arp.y (pos 1048576)) p low high (omega (arith, ints, s.length_most, s.outer_most, high)) (center_in arp r end h)

beside_near : (arp : Point) (r : Runway) (end : End) (hull : Area) → IsProper r → HasNearEnds arp r → Encloses (around_point arp.x arp.y (pos 1048576)) hull → HoldsBeside (approach_of r end) hull (around_point arp.x arp.y (pos 1048576))
beside_near arp r end hull p h k =
    elim (cases_Bool (approach_of r end).precision) [
      | inl t ↦ rw t (record { box = k; corners = approach_near arp r end (pos 2000000) p h (omega (arith, ints)) (omega (arith, ints)) })
      | inr f ↦ rw f k
    ]

-- ---- the areas of one runway
six_near : (arp : Point) (r : Runway) (hull : Area) (areas : List Area) → IsProper r → HasNearEnds arp r → Encloses (around_point arp.x arp.y (pos 1048576)) hull → AreStripAreas r hull areas → All (Encloses (around_point arp.x arp.y (pos 1048576))) areas
six_near arp r hull areas p h k strip =
    let near = around_point arp.x arp.y (pos 1048576) in
    let P : Area → Type 0 = Encloses near in
    let six = strip.six in
    let s = strip.exact in
    let n1 : P six.primary = s.primary_least.least near (primary_in r (pos 630000) near (omega (arith, ints)) (center_in arp r One h) (center_in arp r Two h)) in
    let n2 : P six.approach1 = s.approach1_least.least near (approach_near arp r One (pos 0) p h (omega (arith, ints)) (omega (arith, ints))) in
    let n3 : P six.approach2 = s.approach2_least.least near (approach_near arp r Two (pos 0) p h (omega (arith, ints)) (omega (arith, ints))) in
    let n4 : P six.beside_primary = s.beside_primary_least.least near k in
    let n5 : P six.beside_approach1 = s.beside_approach1_least.least near (beside_near arp r One hull p h k) in
    let n6 : P six.beside_approach2 = s.beside_approach2_least.least near (beside_near arp r Two hull p h k) in
    All-same P areas (in_order six) strip.ordered
    (all_six P six.primary six.approach1 six.approach2 six.beside_primary six.beside_approach1 six.beside_approach2 [] n1 n2 n3 n4 n5 n6 (All-nil P))

-- ---- of all runways
runways_near : (arp : Point) (hull : Area) (runways : List Runway) (areas : List Area) → All IsProper runways → All (HasNearEnds arp) runways → Encloses (around_point arp.x arp.y (pos 1048576)) hull → AreRunwayAreas hull runways areas →
    All (Encloses (around_point arp.x arp.y (pos 1048576))) areas
runways_near arp hull [] areas p h k s = All-same (Encloses (around_point arp.x arp.y (pos 1048576))) areas [] s (All-nil (Encloses (around_point arp.x arp.y (pos 1048576))))
runways_near arp hull (r ∷ rs) areas p h k s =
    let P : Area → Type 0 = Encloses (around_point arp.x arp.y (pos 1048576)) in
    let here = six_near arp r hull s.0 (All-head IsProper r rs p) (All-head (HasNearEnds arp) r rs h) k s.2 in
    let rest = runways_near arp hull rs s.1 (All-tail IsProper r rs p) (All-tail (HasNearEnds arp) r rs h) k s.3 in
    All-same P areas (s.0 ++ s.1) s.4 (All-append P s.0 s.1 here rest)

pub surfaces_near : (a : Airport) (areas : List Area) → IsHeldAirport a → HaveSurfaces a areas → All (Encloses (around_point a.arp.x a.arp.y (pos 1048576))) areas
surfaces_near a areas held s =
    let near = around_point a.arp.x a.arp.y (pos 1048576) in
    let P : Area → Type 0 = Encloses near in
    let hull = s.hull in
    let k = conical_near a hull held s.hull_areas in
    let m = Encloses_through near hull.conical hull.horizontal k (horizontal_in (dome_of a).arcs hull s.hull_areas) in
    All-same P areas (hull.horizontal ∷ hull.conical ∷ s.runways) s.ordered
    (All-cons P hull.horizontal (hull.conical ∷ s.runways) m (All-cons P hull.conical s.runways k (runways_near a.arp hull.conical a.runways s.runways held.proper held.near k s.runway_areas)))
