-- Outside the boxes of its surfaces an airfield has no entry.
use Rattle.std.proofs.Common.{◌≡◌, ℕ, ℤ, pos, ◌+◌, ◌<◌, List, [], ◌∷◌, length, get_or, take, Option, Some, None, Bool, true, false, if◌then◌else◌, refl, subst, arith}
use Rattle.std.specs.List.{All, flat_map}
use Rattle.std.proofs.lemmas.List.Elements.{All-nil, All-head, All-tail, All-more, All-weaker}
use Rattle.std.proofs.lemmas.Int.{ints}
use Rattle.grid_exact.specs.Area.{Has}
use Rattle.grid_exact.specs.Excess.{Surface, IsExcess}
use Rattle.grid_exact.specs.Level.{IsLevel}
use Rattle.grid_exact.specs.declared.area.Area.{Area}
use Rattle.grid_exact.specs.declared.cap.Cap.{Cap}
use Rattle.grid_exact.specs.declared.point.Point.{Point}
use Rattle.airfields.specs.Airfields.{IsHeldAirport}
use Rattle.airfields.specs.Categories.{has_civil_surfaces, is_described}
use Rattle.airfields.specs.declared.airfield.Airport.{Airport}
use Rattle.airfields.specs.declared.runway.Runway.{Runway}
use Rattle.outline_boxes.specs.Boxes.{Encloses, HoldsBoth, IsLeastBox}
use Rattle.outline_boxes.proofs.More.{Has_more, Encloses_through}
use Rattle.horizontal_hull.specs.Arcs.{Dome, dome_of, arcs_of_runway}
use Rattle.horizontal_hull.specs.Areas.{CoverHull, disc_box}
use Rattle.horizontal_hull.specs.Within.{horizontal, conical, horizontal_excess, conical_excess, cap_of}
use Rattle.horizontal_hull.specs.declared.areas.HullAreas.{HullAreas}
use Rattle.horizontal_hull.specs.declared.sizes.TheConstants.{CONICAL_RUN}
use Rattle.horizontal_hull.proofs.Grows.{Within_grows}
use Rattle.horizontal_hull.proofs.Reach.{Within_in_box}
use Rattle.horizontal_hull.proofs.Listed.{horizontal_law, conical_law, cap_law}
use Rattle.imaginary_surfaces.specs.Areas.{HullHas, SkipsIn, in_order}
use Rattle.airfields.specs.declared.airfield.Heliport.{Heliport}
use Rattle.heliport_surfaces.specs.Areas.{SkipsIn as PadSkips, in_order as pad_order}
use Rattle.heliport_surfaces.specs.Pads.{pad_approach_excess, pad_notice_excess, pad_primary_excess, pad_transition_excess}
use Rattle.airfield_findings.specs.Entries.{of_pad, of_runway, of_runways, of_surfaces}
use Rattle.airfield_findings.specs.Reaches.{IsRunwayReach}
use Rattle.finding_lists.specs.declared.finding.Finding.{Finding}

-- a point outside of a box is outside of those that it encloses
pub outside : (outer inner : Area) (x : Point) → Encloses outer inner → ¬ Has outer x → ¬ Has inner x
outside outer inner x e n h = n (Has_more outer inner x e h)

runway_none : (r : Runway) (all : Area) (areas : List Area) (id : List ℕ) (x : Point) (top : ℤ) (cap : Cap) → All (λ a. Encloses all a) areas → SkipsIn r x top cap areas → ¬ Has all x → of_runway id x top cap r ≡ []
runway_none r all areas id x top cap enclosed skips n =
    let s = skips.six in
    let e : All (λ a. Encloses all a) (in_order s) = subst (λ ys. All (λ a. Encloses all a) ys) skips.ordered enclosed in
    let k = skips.skips in
    let e0 : Encloses all s.primary = e 0 s.primary (omega arith) in
    let e1 : Encloses all s.approach1 = e 1 s.primary (omega arith) in
    let e2 : Encloses all s.approach2 = e 2 s.primary (omega arith) in
    let e3 : Encloses all s.beside_primary = e 3 s.primary (omega arith) in
    let e4 : Encloses all s.beside_approach1 = e 4 s.primary (omega arith) in
    let e5 : Encloses all s.beside_approach2 = e 5 s.primary (omega arith) in
    rw (
      k.primary_none (outside all s.primary x e0 n),
      k.approach1_none (outside all s.approach1 x e1 n),
      k.approach2_none (outside all s.approach2 x e2 n),
      k.beside_primary_none (outside all s.beside_primary x e3 n),
      k.beside_approach1_none (outside all s.beside_approach1 x e4 n),
      k.beside_approach2_none (outside all s.beside_approach2 x e5 n),
    ) refl

pub runway_reach : (hull : Area) (r : Runway) (all : Area) (areas : List Area) → All (λ a. Encloses all a) areas
    → ((x : Point) (top : ℤ) (cap : Cap) → IsLevel top → HullHas hull x cap → SkipsIn r x top cap areas) → IsRunwayReach hull r all
runway_reach hull r all areas enclosed skips id x top cap level has n = runway_none r all areas id x top cap enclosed (skips x top cap level has) n

-- a larger box serves too
pub reach_more : (hull : Area) (outer inner : Area) (r : Runway) → Encloses outer inner → IsRunwayReach hull r inner → IsRunwayReach hull r outer
reach_more hull outer inner r e k id x top cap level has n = k id x top cap level has (outside outer inner x e n)

-- a box that encloses another one encloses what that one does, and the next box
pub enclosed_next : (areas : List Area) (i : ℕ) (d old new : Area) → i < length areas → All (λ b. Encloses old b) (take i areas) → IsLeastBox (HoldsBoth old (get_or areas i d)) new → All (λ b. Encloses new b) (take (i + 1) areas)
enclosed_next areas i d old new l h j =
    All-more (λ b. Encloses new b) areas i d l (All-weaker (λ b. Encloses old b) (λ b. Encloses new b) (λ b k. Encloses_through new old b j.holds.first k) (take i areas) h) j.holds.second

-- what encloses all boxes encloses their join so far, and the next one
pub least_next : (areas : List Area) (i : ℕ) (d old new b : Area) → i < length areas → IsLeastBox (HoldsBoth old (get_or areas i d)) new → Encloses b old → All (λ t. Encloses b t) areas → Encloses b new
least_next areas i d old new b l j h all = j.least b (record { first = h; second = all i d l })

-- a box as far as several runways reach, and the next one
pub runways_next : (hull : Area) (runways : List Runway) (i : ℕ) (r : Runway) (own old new : Area) → i < length runways → r ≡ get_or runways i r → All (λ q. IsRunwayReach hull q old) (take i runways) → IsRunwayReach hull r own
    → IsLeastBox (HoldsBoth old own) new → All (λ q. IsRunwayReach hull q new) (take (i + 1) runways)
runways_next hull runways i r own old new l e h k j =
    All-more (λ q. IsRunwayReach hull q new) runways i r l (All-weaker (λ q. IsRunwayReach hull q old) (λ q. IsRunwayReach hull q new) (λ q m. reach_more hull new old q j.holds.first m) (take i runways) h)
    (subst (λ (q : Runway). IsRunwayReach hull q new) e (reach_more hull new own r j.holds.second k))

-- ---- the surfaces of 77.19
pub nothing : (s : Surface) (top : ℤ) (o : Option ℕ) → IsExcess s top o → ¬ s.Covers → o ≡ None
nothing s top None h k = refl
nothing s top (Some e) h k = absurd (k h.covers)

no_runways : (id : List ℕ) (x : Point) (top : ℤ) (cap : Cap) (runways : List Runway) → All (λ r. of_runway id x top cap r ≡ []) runways → flat_map (of_runway id x top cap) runways ≡ []
no_runways id x top cap [] h = refl
no_runways id x top cap (r ∷ rs) h =
    rw (All-head (λ q. of_runway id x top cap q ≡ []) r rs h) (no_runways id x top cap rs (All-tail (λ q. of_runway id x top cap q ≡ []) r rs h))

pub not_civil_or : (b : Bool) (xs : List Finding) → xs ≡ [] → (if b then xs else []) ≡ []
not_civil_or true xs h = h
not_civil_or false xs h = refl

-- outside of a box with the box of the conical surface and the boxes of all runways no surface is exceeded
pub surfaces_none : (a : Airport) (areas : HullAreas) (all : Area) (x : Point) (top : ℤ) → IsHeldAirport a → CoverHull (dome_of a) areas → Encloses all areas.conical → All (λ r. IsRunwayReach areas.conical r all) a.runways
    → IsLevel top → ¬ Has all x → of_surfaces x top a ≡ []
surfaces_none a areas all x top held covers enclosed reach level n =
    let d = dome_of a in
    let out : ¬ Has areas.conical x = outside all areas.conical x enclosed n in
    let h1 : horizontal_excess d x top ≡ None = nothing (horizontal d x) top (horizontal_excess d x top) (horizontal_law a x top held level) (λ w. out (covers.conical_has x (Within_grows _ d.arcs x 0 CONICAL_RUN (omega arith) w))) in
    let h2 : conical_excess d x top ≡ None = nothing (conical d x) top (conical_excess d x top) (conical_law a x top held level) (λ w. out (covers.conical_has x w.within_outer)) in
    let cap = cap_of d x in
    let has : HullHas areas.conical x cap = λ other. absurd (out (covers.cap_has x cap (cap_law a x) other)) in
    let h3 : flat_map (of_runway a.id x top cap) a.runways ≡ [] =
    no_runways a.id x top cap a.runways (All-weaker (λ r. IsRunwayReach areas.conical r all) (λ r. of_runway a.id x top cap r ≡ []) (λ r k. k a.id x top cap level has n) a.runways reach) in
    let h4 : of_runways x top a ≡ [] = not_civil_or (has_civil_surfaces a.category) (flat_map (of_runway a.id x top cap) a.runways) h3 in
    rw (h1, h2, h4) refl

-- without arcs there is no such surface, and the airport is not civil or has no runway
nowhere : Area
nowhere = record { x0 = pos 1; y0 = pos 1; x1 = pos 0; y1 = pos 0 }

no_point : (x : Point) → ¬ Has nowhere x
unfolding nowhere
no_point x h = omega (arith, ints, h.west, h.east)

no_horizontal : (d : Dome) (x : Point) → d.arcs ≡ [] → ¬ (horizontal d x).Covers
no_horizontal d x e w = no_point x (Within_in_box nowhere _ d.arcs x 0 (rw e (All-nil (λ a. Encloses nowhere (disc_box 0 a)))) w)

no_conical : (d : Dome) (x : Point) → d.arcs ≡ [] → ¬ (conical d x).Covers
no_conical d x e w = no_point x (Within_in_box nowhere _ d.arcs x CONICAL_RUN (rw e (All-nil (λ a. Encloses nowhere (disc_box CONICAL_RUN a)))) w.within_outer)

no_strips : (id : List ℕ) (x : Point) (top : ℤ) (cap : Cap) (civil : Bool) (runways : List Runway) → (if civil then flat_map arcs_of_runway runways else []) ≡ [] → (if civil then flat_map (of_runway id x top cap) runways else []) ≡ []
no_strips id x top cap true [] e = refl
no_strips id x top cap true (r ∷ rs) e = absurd (cc)
no_strips id x top cap false runways e = refl

pub surfaces_nowhere : (a : Airport) (x : Point) (top : ℤ) → IsHeldAirport a → (dome_of a).arcs ≡ [] → IsLevel top → of_surfaces x top a ≡ []
unfolding dome_of
surfaces_nowhere a x top held e level =
    let d = dome_of a in
    let h1 : horizontal_excess d x top ≡ None = nothing (horizontal d x) top (horizontal_excess d x top) (horizontal_law a x top held level) (no_horizontal d x e) in
    let h2 : conical_excess d x top ≡ None = nothing (conical d x) top (conical_excess d x top) (conical_law a x top held level) (no_conical d x e) in
    let h3 : of_runways x top a ≡ [] = no_strips a.id x top (cap_of d x) (has_civil_surfaces a.category) a.runways e in
    rw (h1, h2, h3) refl

-- ---- a heliport
pub pad_none : (h : Heliport) (areas : List Area) (x : Point) (top : ℤ) → PadSkips h x top areas → All (λ a. ¬ Has a x) areas → of_pad x top h ≡ []
pad_none h areas x top skips n =
    let s = skips.seven in
    let o : All (λ a. ¬ Has a x) (pad_order s) = subst (λ ys. All (λ a. ¬ Has a x) ys) skips.ordered n in
    let k = skips.skips in
    let o0 : ¬ Has s.primary x = o 0 s.primary (omega arith) in
    let o1 : ¬ Has s.approach1 x = o 1 s.primary (omega arith) in
    let o2 : ¬ Has s.approach2 x = o 2 s.primary (omega arith) in
    let o3 : ¬ Has s.beside_primary x = o 3 s.primary (omega arith) in
    let o4 : ¬ Has s.beside_approach1 x = o 4 s.primary (omega arith) in
    let o5 : ¬ Has s.beside_approach2 x = o 5 s.primary (omega arith) in
    rw (k.primary_none o0, k.approach1_none o1, k.approach2_none o2, k.beside_primary_none o3, k.beside_approach1_none o4, k.beside_approach2_none o5) refl

pub pad_slope_none : (h : Heliport) (areas : List Area) (x : Point) (top : ℤ) → PadSkips h x top areas → All (λ a. ¬ Has a x) areas → pad_notice_excess h x top ≡ None
pad_slope_none h areas x top skips n =
    let s = skips.seven in
    let o : All (λ a. ¬ Has a x) (pad_order s) = subst (λ ys. All (λ a. ¬ Has a x) ys) skips.ordered n in
    let o6 : ¬ Has s.notice x = o 6 s.primary (omega arith) in
    skips.skips.notice_none o6

-- one of no described category has no surfaces
pub undescribed_standards : (h : Heliport) (x : Point) (top : ℤ) → is_described h.category ≡ false → of_pad x top h ≡ []
unfolding pad_primary_excess pad_approach_excess pad_transition_excess
undescribed_standards h x top e = rw e refl

pub undescribed_slope : (h : Heliport) (x : Point) (top : ℤ) → is_described h.category ≡ false → pad_notice_excess h x top ≡ None
unfolding pad_notice_excess
undescribed_slope h x top e = rw e refl
