-- Each area of the surfaces of an airport lies in one of them that is about the ends of a runway, too.
use Rattle.std.proofs.Common.{◌≡◌, pos, ◌+ℤ◌, ◌*ℤ◌, arith, List, [], ◌∷◌, ◌++◌, inl, inr, refl, sym, subst, false}
use Rattle.std.specs.List.{All, Contains}
use Rattle.std.proofs.lemmas.Bool.{cases_Bool}
use Rattle.std.proofs.lemmas.Int.{ints}
use Rattle.std.proofs.lemmas.List.Elements.{All-append, All-contains, All-cons, All-head, All-nil, All-same, All-tail, Contains-append_left, Contains-append_right}
use Rattle.grid_exact.specs.declared.area.Area.{Area}
use Rattle.outline_boxes.specs.Boxes.{Encloses, IsLeastBox}
use Rattle.outline_boxes.specs.Trapezoids.{HasBoxAndTrapezoid, HasTrapezoid}
use Rattle.outline_boxes.proofs.More.{Encloses_through}
use Rattle.airfields.specs.Airfields.{IsHeldAirport}
use Rattle.airfields.specs.Runways.{IsProper}
use Rattle.airfields.specs.declared.airfield.Airport.{Airport}
use Rattle.airfields.specs.declared.runway.Runway.{Runway}
use Rattle.runway_lines.specs.declared.end.End.{End}
use Rattle.runway_lines.specs.declared.end.End.TheVariants.{One, Two}
use Rattle.imaginary_surfaces.specs.Areas.{AreStripAreas, HoldsBeside, approach_outline, in_order}
use Rattle.imaginary_surfaces.specs.Strips.{approach_of}
use Rattle.imaginary_surfaces.proofs.Sound.{approach_sound}
use Rattle.horizontal_hull.specs.Arcs.{dome_of}
use Rattle.airfield_findings.specs.Areas.{AreRunwayAreas, HaveSurfaces}
use Rattle.airfield_findings.specs.Around.{around_point}
use Rattle.airfield_findings.specs.Kept.{IsKept}
use Rattle.airfield_findings.proofs.BoxOrder.{encloses_same}
use Rattle.airfield_findings.proofs.Centers.{conical_reach, plain_reach, reach_least}
use Rattle.airfield_findings.proofs.Conical.{HasDiscs, conical_about, conical_about_end, disc_about, horizontal_in}
use Rattle.airfield_findings.proofs.OutlineFacts.{trapezoid_less}
use Rattle.airfield_findings.proofs.SixAreas.{all_six}
use Rattle.airfield_findings.proofs.StripsNear.{approach_in, primary_in}

-- ---- a transitional surface's box encloses that of the conical surface, and beside a precision approach surface that one's
beside_has_hull : (r : Runway) (end : End) (hull box : Area) → HoldsBeside (approach_of r end) hull box → Encloses box hull
beside_has_hull r end hull box h =
    elim (cases_Bool (approach_of r end).precision) [
      | inl t ↦ (let k : HasBoxAndTrapezoid hull (approach_outline (approach_of r end) (pos 2000000)) box = rw t at h in k.box)
      | inr f ↦ rw f at h
    ]

wide_has_narrow : (r : Runway) (end : End) (box : Area) → IsProper r → HasTrapezoid (approach_outline (approach_of r end) (pos 2000000)) box → HasTrapezoid (approach_outline (approach_of r end) (pos 0)) box
wide_has_narrow r end box p h =
    let o = approach_of r end in
    let s = approach_sound r end p in
    trapezoid_less o.line (pos 40) o.class.length (pos 20 *ℤ o.width +ℤ pos 2000000) (pos 20 *ℤ o.class.outer +ℤ pos 2000000) (pos 20 *ℤ o.width +ℤ pos 0) (pos 20 *ℤ o.class.outer +ℤ pos 0) box
    (omega (arith, ints, s.wide.least)) (omega (arith, ints, s.sized.outer_least)) h

-- a plain approach surface lies in the conical surface's box
plain_in : (r : Runway) (end : End) (hull : Area) → IsProper r → HasDiscs hull r → (approach_of r end).precision ≡ false → HasTrapezoid (approach_outline (approach_of r end) (pos 0)) hull
unfolding approach_of
plain_in r end hull p h e =
    approach_in r end (pos 0) (conical_reach r) hull p (omega (arith, ints)) (omega (arith, ints)) (omega (arith, ints, plain_reach r end e)) (disc_about hull r end h)

approach_kept : (r : Runway) (end : End) (near hull area beside : Area) (all : List Area) → IsProper r → HasDiscs hull r → Encloses hull near → Contains all hull → Contains all beside →
    IsLeastBox (HasTrapezoid (approach_outline (approach_of r end) (pos 0))) area → HoldsBeside (approach_of r end) hull beside → IsKept near all area
approach_kept r end near hull area beside all p discs n first second least held =
    elim (cases_Bool (approach_of r end).precision) [
      | inl t ↦ (
          let k : HasBoxAndTrapezoid hull (approach_outline (approach_of r end) (pos 2000000)) beside = rw t at held in
          record { kept = beside; listed = second; has_area = least.least beside (wide_has_narrow r end beside p k.corners); has_near = Encloses_through beside hull near k.box n }
          )
      | inr f ↦ record { kept = hull; listed = first; has_area = least.least hull (plain_in r end hull p discs f); has_near = n }
    ]

-- an area that encloses the conical surface's stands for itself
itself_kept : (near hull area : Area) (all : List Area) → Encloses hull near → Contains all area → Encloses area hull → IsKept near all area
itself_kept near hull area all n listed h = record { kept = area; listed = listed; has_area = encloses_same area; has_near = Encloses_through area hull near h n }

-- ---- the areas of one runway
six_kept : (r : Runway) (near hull : Area) (areas all : List Area) → IsProper r → HasDiscs hull r → Encloses hull near → Contains all hull → ((x : Area) → Contains areas x → Contains all x) → AreStripAreas r hull areas → All (IsKept near all) areas
six_kept r near hull areas all p discs n first listed strip =
    let P : Area → Type 0 = IsKept near all in
    let six = strip.six in
    let s = strip.exact in
    let own : (x : Area) → Contains (in_order six) x → Contains all x = λ x c. listed x (subst (λ (ys : List Area). Contains ys x) (sym strip.ordered) c) in
    let l4 = own six.beside_primary (3, omega arith, refl) in
    let l5 = own six.beside_approach1 (4, omega arith, refl) in
    let l6 = own six.beside_approach2 (5, omega arith, refl) in
    let b5 = s.beside_approach1_least.holds in
    let b6 = s.beside_approach2_least.holds in
    let k1 : P six.primary = record { kept = hull; listed = first; has_area = s.primary_least.least hull (primary_in r (conical_reach r) hull (omega (arith, ints, reach_least r)) discs.first discs.second); has_near = n } in
    let k2 : P six.approach1 = approach_kept r One near hull six.approach1 six.beside_approach1 all p discs n first l5 s.approach1_least b5 in
    let k3 : P six.approach2 = approach_kept r Two near hull six.approach2 six.beside_approach2 all p discs n first l6 s.approach2_least b6 in
    let k4 : P six.beside_primary = itself_kept near hull six.beside_primary all n l4 s.beside_primary_least.holds in
    let k5 : P six.beside_approach1 = itself_kept near hull six.beside_approach1 all n l5 (beside_has_hull r One hull six.beside_approach1 b5) in
    let k6 : P six.beside_approach2 = itself_kept near hull six.beside_approach2 all n l6 (beside_has_hull r Two hull six.beside_approach2 b6) in
    All-same P areas (in_order six) strip.ordered
    (all_six P six.primary six.approach1 six.approach2 six.beside_primary six.beside_approach1 six.beside_approach2 [] k1 k2 k3 k4 k5 k6 (All-nil P))

-- ---- of all runways
runways_kept : (near hull : Area) (runways : List Runway) (areas all : List Area) → All IsProper runways → All (HasDiscs hull) runways → Encloses hull near → Contains all hull → ((x : Area) → Contains areas x → Contains all x) → AreRunwayAreas hull runways areas → All (IsKept near all) areas
runways_kept near hull [] areas all p discs n first listed s = All-same (IsKept near all) areas [] s (All-nil (IsKept near all))
runways_kept near hull (r ∷ rs) areas all p discs n first listed s =
    let P : Area → Type 0 = IsKept near all in
    let same : (x : Area) → Contains (s.0 ++ s.1) x → Contains all x = λ x c. listed x (subst (λ (ys : List Area). Contains ys x) (sym s.4) c) in
    let own : (x : Area) → Contains s.0 x → Contains all x = λ x c. same x (Contains-append_left s.0 s.1 x c) in
    let more : (x : Area) → Contains s.1 x → Contains all x = λ x c. same x (Contains-append_right s.0 s.1 x c) in
    let here = six_kept r near hull s.0 all (All-head IsProper r rs p) (All-head (HasDiscs hull) r rs discs) n first own s.2 in
    let rest = runways_kept near hull rs s.1 all (All-tail IsProper r rs p) (All-tail (HasDiscs hull) r rs discs) n first more s.3 in
    All-same P areas (s.0 ++ s.1) s.4 (All-append P s.0 s.1 here rest)

-- ---- of an airport
pub surfaces_kept : (a : Airport) (areas : List Area) (r : Runway) → IsHeldAirport a → HaveSurfaces a areas → Contains a.runways r → All (IsKept (around_point r.end1.at.x r.end1.at.y (pos 88000)) areas) areas
surfaces_kept a areas r held s listed =
    let near = around_point r.end1.at.x r.end1.at.y (pos 88000) in
    let P : Area → Type 0 = IsKept near areas in
    let hull = s.hull in
    let c = hull.conical in
    let list = hull.horizontal ∷ c ∷ s.runways in
    let discs = conical_about a hull s.hull_areas in
    let n : Encloses c near = conical_about_end c r One (All-contains (HasDiscs c) a.runways r discs listed) in
    let in_all : (x : Area) → Contains list x → Contains areas x = λ x k. subst (λ (ys : List Area). Contains ys x) (sym s.ordered) k in
    let first : Contains areas c = in_all c (1, omega arith, refl) in
    let more : (x : Area) → Contains s.runways x → Contains areas x = λ x k. in_all x (Contains-append_right (hull.horizontal ∷ c ∷ []) s.runways x k) in
    let k1 : P hull.horizontal = record { kept = c; listed = first; has_area = horizontal_in (dome_of a).arcs hull s.hull_areas; has_near = n } in
    let k2 : P c = record { kept = c; listed = first; has_area = encloses_same c; has_near = n } in
    All-same P areas list s.ordered
    (All-cons P hull.horizontal (c ∷ s.runways) k1 (All-cons P c s.runways k2 (runways_kept near c a.runways s.runways areas held.proper discs n first more s.runway_areas)))
