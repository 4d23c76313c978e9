-- A point that no area of an airfield has.
use Rattle.std.proofs.Common.{◌≡◌, ℕ, ℤ, ◌+◌, ◌<◌, List, [], ◌∷◌, ◌++◌, length, Option, Some, None, false, refl, subst, arith, take, get_or, sym, ap, ◌∙◌}
use Rattle.std.specs.List.{All, flat_map}
use Rattle.std.specs.Option.{IsSomeAnd, option_to_list}
use Rattle.std.proofs.lemmas.List.Elements.{All-head, All-tail}
use Rattle.std.proofs.lemmas.Grind.{flat_map-append}
use Rattle.std.proofs.lemmas.List.{take_more}
use Rattle.grid_exact.specs.Area.{Has}
use Rattle.grid_exact.specs.Level.{IsLevel}
use Rattle.grid_exact.specs.declared.area.Area.{Area}
use Rattle.grid_exact.specs.declared.cap.Cap.{Cap}
use Rattle.grid_exact.specs.declared.point.Point.{Point}
use Rattle.airfields.specs.Airfields.{IsHeldAirport}
use Rattle.airfields.specs.Categories.{has_civil_surfaces, is_described}
use Rattle.airfields.specs.declared.airfield.Airport.{Airport}
use Rattle.airfields.specs.declared.runway.Runway.{Runway}
use Rattle.airfields.specs.Sites.{Site}
use Rattle.airfields.specs.declared.airfield.Airfield.TheVariants.{Airport as AnAirport, Heliport as AHeliport}
use Rattle.airfields.specs.declared.airfield.Heliport.{Heliport}
use Rattle.height_rules.specs.NearAirport.{near_excess}
use Rattle.height_rules.specs.Heights.{notice_top, standards_top}
use Rattle.horizontal_hull.specs.Arcs.{dome_of}
use Rattle.horizontal_hull.specs.Areas.{CoverHull}
use Rattle.horizontal_hull.specs.Within.{horizontal, conical, horizontal_excess, conical_excess, cap_of}
use Rattle.horizontal_hull.specs.declared.areas.HullAreas.{HullAreas}
use Rattle.horizontal_hull.proofs.Listed.{horizontal_law, conical_law, cap_law}
use Rattle.imaginary_surfaces.specs.Areas.{HullHas, SkipsIn, in_order}
use Rattle.heliport_surfaces.specs.Areas.{SkipsIn as PadSkips}
use Rattle.runway_notice.specs.Notices.{notice_slope}
use Rattle.airfield_findings.specs.Entries.{of_runway, of_runways}
use Rattle.airfield_findings.proofs.Joins.{left, right}
use Rattle.airfield_findings.proofs.ReachFacts.{not_civil_or, nothing, pad_none, pad_slope_none, undescribed_slope, undescribed_standards}
use Rattle.oe_findings.specs.Outside.{IsOutside, LeavesRunwaysOut, LeavesSurfacesOut, LeavesOut}

-- ---- runways
pub runway_outside : (r : Runway) (areas : List Area) (id : List ℕ) (x : Point) (top : ℤ) (cap : Cap) → SkipsIn r x top cap areas → IsOutside areas x → of_runway id x top cap r ≡ []
runway_outside r areas id x top cap skips n =
    let s = skips.six in
    let o : All (λ a. ¬ Has a x) (in_order s) = subst (λ ys. All (λ a. ¬ Has a x) ys) skips.ordered n in
    let k = skips.skips in
    let o0 : ¬ Has s.primary x = o 0 s.primary (omega arith) in
    let o1 : ¬ Has s.approach1 x = o 1 s.primary (omega arith) in
    let o2 : ¬ Has s.approach2 x = o 2 s.primary (omega arith) in
    let o3 : ¬ Has s.beside_primary x = o 3 s.primary (omega arith) in
    let o4 : ¬ Has s.beside_approach1 x = o 4 s.primary (omega arith) in
    let o5 : ¬ Has s.beside_approach2 x = o 5 s.primary (omega arith) in
    rw (k.primary_none o0, k.approach1_none o1, k.approach2_none o2, k.beside_primary_none o3, k.beside_approach1_none o4, k.beside_approach2_none o5) refl

pub no_runways : (hull : Area) → LeavesRunwaysOut hull [] []
no_runways hull id x top cap level has n = refl

pub next_left_out : (hull : Area) (runways : List Runway) (i : ℕ) (r : Runway) (old one : List Area) → i < length runways → r ≡ get_or runways i r
    → ((x : Point) (top : ℤ) (cap : Cap) → IsLevel top → HullHas hull x cap → SkipsIn r x top cap one) → LeavesRunwaysOut hull (take i runways) old → LeavesRunwaysOut hull (take (i + 1) runways) (old ++ one)
next_left_out hull runways i r old one l e skips h id x top cap level has n =
    let f = of_runway id x top cap in
    let t : take (i + 1) runways ≡ take i runways ++ r ∷ [] = take_more runways i r l ∙ ap (λ z. take i runways ++ z ∷ []) (sym e) in
    let before : flat_map f (take i runways) ≡ [] = h id x top cap level has (left (λ a. ¬ Has a x) old one n) in
    let here : f r ≡ [] = runway_outside r one id x top cap (skips x top cap level has) (right (λ a. ¬ Has a x) old one n) in
    let last : flat_map f (r ∷ []) ≡ [] = rw here refl in
    rw (t, flat_map-append f (take i runways) (r ∷ []), before) last

-- ---- the surfaces of 77.19
pub surfaces_left_out : (a : Airport) (areas : HullAreas) (more : List Area) → IsHeldAirport a → CoverHull (dome_of a) areas → LeavesRunwaysOut areas.conical a.runways more → LeavesSurfacesOut a (areas.horizontal ∷ areas.conical ∷ more)
surfaces_left_out a areas more held covers reach x top level n =
    let d = dome_of a in
    let rest = All-tail (λ b. ¬ Has b x) areas.horizontal (areas.conical ∷ more) n in
    let out1 : ¬ Has areas.horizontal x = All-head (λ b. ¬ Has b x) areas.horizontal (areas.conical ∷ more) n in
    let out2 : ¬ Has areas.conical x = All-head (λ b. ¬ Has b x) areas.conical more rest in
    let h1 : horizontal_excess d x top ≡ None = nothing (horizontal d x) top (horizontal_excess d x top) (horizontal_law a x top held level) (λ w. out1 (covers.horizontal_has x w)) in
    let h2 : conical_excess d x top ≡ None = nothing (conical d x) top (conical_excess d x top) (conical_law a x top held level) (λ w. out2 (covers.conical_has x w.within_outer)) in
    let cap = cap_of d x in
    let has : HullHas areas.conical x cap = λ other. absurd (out2 (covers.cap_has x cap (cap_law a x) other)) in
    let h3 : flat_map (of_runway a.id x top cap) a.runways ≡ [] = reach a.id x top cap level has (All-tail (λ b. ¬ Has b x) areas.conical more rest) in
    let h4 : of_runways x top a ≡ [] = not_civil_or (has_civil_surfaces a.category) (flat_map (of_runway a.id x top cap) a.runways) h3 in
    rw (h1, h2, h4) refl

-- ---- an airport
none_over : (o : Option Area) (x : Point) → IsOutside (option_to_list o) x → ¬ IsSomeAnd o (λ a. Has a x)
none_over None x n h = h
none_over (Some a) x n h = All-head (λ b. ¬ Has b x) a [] n h

pub airport_left_out : (a : Airport) (near notice : Option Area) (surfaces : List Area) → ((s : Site) → ¬ IsSomeAnd near (λ b. Has b s.at) → near_excess a s ≡ None) → LeavesSurfacesOut a surfaces
    → ((x : Point) (top : ℤ) → ¬ IsSomeAnd notice (λ b. Has b x) → notice_slope a x top ≡ None) → LeavesOut (AnAirport a) ((option_to_list near ++ surfaces) ++ option_to_list notice)
airport_left_out a near notice surfaces near_none surfaces_none notice_none = record {
  standards = λ site levels n.
      let front = left (λ b. ¬ Has b site.at) (option_to_list near ++ surfaces) (option_to_list notice) n in
      rw (
        near_none site (none_over near site.at (left (λ b. ¬ Has b site.at) (option_to_list near) surfaces front)),
        surfaces_none site.at (standards_top site) levels.standards_level (right (λ b. ¬ Has b site.at) (option_to_list near) surfaces front),
      ) refl;
  slopes = λ site levels n. rw (notice_none site.at (notice_top site) (none_over notice site.at (right (λ b. ¬ Has b site.at) (option_to_list near ++ surfaces) (option_to_list notice) n))) refl;
}

-- ---- a heliport
pub heliport_left_out : (h : Heliport) (areas : List Area) → ((x : Point) (top : ℤ) → IsLevel top → PadSkips h x top areas) → LeavesOut (AHeliport h) areas
heliport_left_out h areas skips = record {
  standards = λ site levels n. pad_none h areas site.at (standards_top site) (skips site.at (standards_top site) levels.standards_level) n;
  slopes = λ site levels n. rw (pad_slope_none h areas site.at (notice_top site) (skips site.at (notice_top site) levels.notice_level) n) refl;
}

-- one of no described category has no surfaces
pub undescribed_left_out : (h : Heliport) (areas : List Area) → is_described h.category ≡ false → LeavesOut (AHeliport h) areas
undescribed_left_out h areas e = record {
  standards = λ site levels n. undescribed_standards h site.at (standards_top site) e;
  slopes = λ site levels n. rw (undescribed_slope h site.at (notice_top site) e) refl;
}
