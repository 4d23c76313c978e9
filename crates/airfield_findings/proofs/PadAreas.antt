-- The area of the slope of notice from a heliport: what it encloses, and what encloses it.
use Rattle.std.proofs.Common.{pos, ◌≤◌, ◌-ℤ◌, ◌≤ℤ◌, unsigned_abs, arith, List, [], ◌∷◌, refl, sym, subst}
use Rattle.std.specs.List.{All, Contains}
use Rattle.std.proofs.lemmas.Int.{ints}
use Rattle.std.proofs.lemmas.List.Elements.{All-cons, All-nil, All-same, All-weaker}
use Rattle.grid_exact.specs.declared.area.Area.{Area}
use Rattle.grid_exact.proofs.RootSums.{le_from_squares}
use Rattle.outline_boxes.specs.Boxes.{Encloses, shrunk}
use Rattle.airfields.specs.Airfields.{IsHeldHeliport}
use Rattle.airfields.specs.declared.airfield.Heliport.{Heliport}
use Rattle.heliport_surfaces.specs.Areas.{ArePadAreas, approach_outline, approach_side_outline, landing_outline, landing_side_outline, in_order}
use Rattle.heliport_surfaces.specs.Pads.{approach_of, landing_of}
use Rattle.heliport_surfaces.specs.declared.parts.PadEnd.TheVariants.{One, Two}
use Rattle.airfield_findings.specs.Around.{around_point}
use Rattle.airfield_findings.specs.Kept.{IsKept}
use Rattle.airfield_findings.proofs.BoxOrder.{around_end, encloses_same}
use Rattle.airfield_findings.proofs.CornersIn.{rectangle_in, trapezoid_in}
use Rattle.airfield_findings.proofs.OutlineFacts.{HasLine, within_has_line}
use Rattle.airfield_findings.proofs.SixAreas.{all_six}

-- it encloses the boxes that reach 5,000 feet from both ends of the axis
pub record NoticeHasEnds (h : Heliport) (notice : Area) : Type 0 where
  pub first : Encloses notice (around_point h.a.x h.a.y (pos 50000))
  pub second : Encloses notice (around_point h.b.x h.b.y (pos 50000))

line_held : (h : Heliport) (areas : List Area) → IsHeldHeliport h → (p : ArePadAreas h areas) → HasLine (landing_of h).line (pos 50000) p.seven.notice
unfolding landing_of
line_held h areas held p =
    within_has_line (landing_outline (landing_of h)) (pos 50000) p.seven.notice (omega (arith, ints)) (omega (arith, held.axis_least)) (omega (arith, ints, held.width_least)) p.exact.notice_least.holds

pub ends_held : (h : Heliport) (areas : List Area) → IsHeldHeliport h → (p : ArePadAreas h areas) → NoticeHasEnds h p.seven.notice
unfolding landing_of
ends_held h areas held p =
    let l = line_held h areas held p in
    record { first = l.start; second = around_end p.seven.notice h.a.x h.a.y h.b.x h.b.y (pos 50000) l.end }

-- ---- it encloses all seven areas, of which it is one
pub notice_listed : (h : Heliport) (areas : List Area) (p : ArePadAreas h areas) → Contains areas p.seven.notice
notice_listed h areas p =
    let k : Contains (in_order p.seven) p.seven.notice = (6, omega arith, refl) in
    subst (λ (ys : List Area). Contains ys p.seven.notice) (sym p.ordered) k

pub pad_in_notice : (h : Heliport) (areas : List Area) → IsHeldHeliport h → (p : ArePadAreas h areas) → All (Encloses p.seven.notice) areas
unfolding landing_of approach_of
pad_in_notice h areas held p =
    let l = line_held h areas held p in
    let e = ends_held h areas held p in
    let a = p.seven in
    let n = a.notice in
    let P : Area → Type 0 = Encloses n in
    let low : pos 0 ≤ℤ h.width = omega (arith, ints, held.width_least) in
    let high : h.width ≤ℤ pos 5000 = omega (arith, ints, held.width_most) in
    let n1 : P a.primary = p.exact.primary_least.least n (rectangle_in (landing_outline (landing_of h)) (pos 50000) n (omega (arith, ints)) low (omega (arith, ints, high)) l.start l.end) in
    let n2 : P a.approach1 = p.exact.approach1_least.least n (trapezoid_in (approach_outline (approach_of h One)) (pos 50000) n (omega (arith, ints)) (omega (arith, ints, low)) (omega (arith, ints, high)) (omega (arith, ints)) (omega (arith, ints)) e.first) in
    let n3 : P a.approach2 = p.exact.approach2_least.least n (trapezoid_in (approach_outline (approach_of h Two)) (pos 50000) n (omega (arith, ints)) (omega (arith, ints, low)) (omega (arith, ints, high)) (omega (arith, ints)) (omega (arith, ints)) e.second) in
    let n4 : P a.beside_primary = p.exact.beside_primary_least.least n (rectangle_in (landing_side_outline (landing_of h)) (pos 50000) n (omega (arith, ints)) (omega (arith, ints)) (omega (arith, ints)) l.start l.end) in
    let n5 : P a.beside_approach1 = p.exact.beside_approach1_least.least n (trapezoid_in (approach_side_outline (approach_of h One)) (pos 50000) n (omega (arith, ints)) (omega (arith, ints)) (omega (arith, ints)) (omega (arith, ints)) (omega (arith, ints)) e.first) in
    let n6 : P a.beside_approach2 = p.exact.beside_approach2_least.least n (trapezoid_in (approach_side_outline (approach_of h Two)) (pos 50000) n (omega (arith, ints)) (omega (arith, ints)) (omega (arith, ints)) (omega (arith, ints)) (omega (arith, ints)) e.second) in
    All-same P areas (in_order a) p.ordered
    (all_six P a.primary a.approach1 a.approach2 a.beside_primary a.beside_approach1 a.beside_approach2 (n ∷ []) n1 n2 n3 n4 n5 n6 (All-cons P n [] (encloses_same n) (All-nil P)))

-- ---- it is about the first end of the axis
axis_x : (h : Heliport) → IsHeldHeliport h → unsigned_abs (h.b.x -ℤ h.a.x) ≤ 10000
axis_x h held = le_from_squares (unsigned_abs (h.b.x -ℤ h.a.x)) 10000 (omega (arith, held.axis_most))

axis_y : (h : Heliport) → IsHeldHeliport h → unsigned_abs (h.b.y -ℤ h.a.y) ≤ 10000
axis_y h held = le_from_squares (unsigned_abs (h.b.y -ℤ h.a.y)) 10000 (omega (arith, held.axis_most))

pub record IsAboutPad (h : Heliport) (notice : Area) : Type 0 where
  pub inside : Encloses notice (around_point h.a.x h.a.y (pos 50000))
  pub outside : Encloses (around_point h.a.x h.a.y (pos 65000)) notice

pub notice_around : (h : Heliport) (areas : List Area) → IsHeldHeliport h → (p : ArePadAreas h areas) → IsAboutPad h p.seven.notice
unfolding landing_of
notice_around h areas held p =
    let box = around_point h.a.x h.a.y (pos 65000) in
    let x = axis_x h held in
    let y = axis_y h held in
    record {
      inside = (ends_held h areas held p).first;
      outside = p.exact.notice_least.least box
          (rectangle_in (landing_outline (landing_of h)) (pos 5000) (shrunk box (pos 50000)) (omega (arith, ints)) (omega (arith, ints, held.width_least)) (omega (arith, ints, held.width_most))
          (record { west = omega (arith, ints); south = omega (arith, ints); east = omega (arith, ints); north = omega (arith, ints) })
          (record { west = omega (arith, ints, x); south = omega (arith, ints, y); east = omega (arith, ints, x); north = omega (arith, ints, y) }));
    }

-- ---- so it stands for all of them
pub pads_kept : (h : Heliport) (areas : List Area) → IsHeldHeliport h → ArePadAreas h areas → All (IsKept (around_point h.a.x h.a.y (pos 50000)) areas) areas
pads_kept h areas held p =
    let n = p.seven.notice in
    let near = around_point h.a.x h.a.y (pos 50000) in
    All-weaker (Encloses n) (IsKept near areas)
    (λ (t : Area) (e : Encloses n t). record { kept = n; listed = notice_listed h areas p; has_area = e; has_near = (ends_held h areas held p).first })
    areas (pad_in_notice h areas held p)
