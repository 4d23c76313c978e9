-- What encloses the areas of a surface encloses every other list of them, and there is no other list: least boxes are unique.
use Rattle.std.proofs.Common.{◌≡◌, inl, inr, Bool, true, false, List, [], ◌∷◌, ◌++◌, Option, Some, None, refl, sym, ap, ◌∙◌, subst, arith}
use Rattle.std.specs.Bool.{MatchBool}
use Rattle.std.specs.List.{All}
use Rattle.std.specs.Option.{option_to_list, MatchOption}
use Rattle.std.proofs.lemmas.List.Elements.{All-append, All-cons, All-head, All-nil, All-same, All-tail}
use Rattle.grid_exact.specs.declared.area.Area.{Area}
use Rattle.outline_boxes.specs.Boxes.{Encloses, IsLeastBox}
use Rattle.outline_boxes.proofs.More.{Encloses_through}
use Rattle.airfields.specs.Categories.{is_described}
use Rattle.airfields.specs.declared.airfield.Airfield.{Airfield}
use Rattle.airfields.specs.declared.airfield.Airfield.TheVariants.{Airport as AnAirport, Heliport as AHeliport}
use Rattle.airfields.specs.declared.airfield.Airport.{Airport}
use Rattle.airfields.specs.declared.airfield.Heliport.{Heliport}
use Rattle.airfields.specs.declared.runway.Runway.{Runway}
use Rattle.height_rules.specs.NearAreas.{HasLimit, IsNearArea}
use Rattle.heliport_surfaces.specs.Areas.{ArePadAreas}
use Rattle.horizontal_hull.specs.Arcs.{dome_of}
use Rattle.imaginary_surfaces.specs.Areas.{AreStripAreas, in_order}
use Rattle.runway_notice.specs.NoticeAreas.{HasSlope, IsNoticeArea}
use Rattle.airfield_findings.specs.Areas.{AreAirportAreas, AreAreas, AreRunwayAreas, AreSurfaceAreas, HaveSurfaces}
use Rattle.airfield_findings.proofs.BoxOrder.{encloses_both, least_once}
use Rattle.airfield_findings.proofs.Joins.{left, no_least, right}
use Rattle.airfield_findings.proofs.SixAreas.{all_six}

abbrev In : Area → Area → Type 0
In b t = Encloses b t

least_in : (Holds : Area → Type 0) (t u b : Area) → IsLeastBox Holds t → IsLeastBox Holds u → Encloses b u → Encloses b t
least_in Holds t u b h k e = Encloses_through b u t e (least_once Holds t u h k).1

six_in : (r : Runway) (hull b : Area) (xs ys : List Area) → AreStripAreas r hull xs → AreStripAreas r hull ys → All (In b) ys → All (In b) xs
six_in r hull b xs ys p q h =
    let s = p.six in
    let t = q.six in
    let k : All (In b) (in_order t) = subst (λ (zs : List Area). All (In b) zs) q.ordered h in
    let k0 : Encloses b t.primary = k 0 t.primary (omega arith) in
    let k1 : Encloses b t.approach1 = k 1 t.primary (omega arith) in
    let k2 : Encloses b t.approach2 = k 2 t.primary (omega arith) in
    let k3 : Encloses b t.beside_primary = k 3 t.primary (omega arith) in
    let k4 : Encloses b t.beside_approach1 = k 4 t.primary (omega arith) in
    let k5 : Encloses b t.beside_approach2 = k 5 t.primary (omega arith) in
    All-same (In b) xs (in_order s) p.ordered
    (all_six (In b) s.primary s.approach1 s.approach2 s.beside_primary s.beside_approach1 s.beside_approach2 []
    (least_in _ s.primary t.primary b p.exact.primary_least q.exact.primary_least k0)
    (least_in _ s.approach1 t.approach1 b p.exact.approach1_least q.exact.approach1_least k1)
    (least_in _ s.approach2 t.approach2 b p.exact.approach2_least q.exact.approach2_least k2)
    (least_in _ s.beside_primary t.beside_primary b p.exact.beside_primary_least q.exact.beside_primary_least k3)
    (least_in _ s.beside_approach1 t.beside_approach1 b p.exact.beside_approach1_least q.exact.beside_approach1_least k4)
    (least_in _ s.beside_approach2 t.beside_approach2 b p.exact.beside_approach2_least q.exact.beside_approach2_least k5)
    (All-nil (In b)))

runways_in : (hull b : Area) (rs : List Runway) (xs ys : List Area) → AreRunwayAreas hull rs xs → AreRunwayAreas hull rs ys → All (In b) ys → All (In b) xs
runways_in hull b [] xs ys p q h = All-same (In b) xs [] p (All-nil (In b))
runways_in hull b (r ∷ rs) xs ys p q h =
    let k : All (In b) (q.0 ++ q.1) = subst (λ (zs : List Area). All (In b) zs) q.4 h in
    All-same (In b) xs (p.0 ++ p.1) p.4
    (All-append (In b) p.0 p.1 (six_in r hull b p.0 q.0 p.2 q.2 (left (In b) q.0 q.1 k)) (runways_in hull b rs p.1 q.1 p.3 q.3 (right (In b) q.0 q.1 k)))

have_in : (a : Airport) (b : Area) (xs ys : List Area) → HaveSurfaces a xs → HaveSurfaces a ys → All (In b) ys → All (In b) xs
have_in a b xs ys p q h =
    let k : All (In b) (q.hull.horizontal ∷ q.hull.conical ∷ q.runways) = subst (λ (zs : List Area). All (In b) zs) q.ordered h in
    let rest = All-tail (In b) q.hull.horizontal (q.hull.conical ∷ q.runways) k in
    let o = least_once _ q.hull.conical p.hull.conical q.hull_areas.conical_least p.hull_areas.conical_least in
    let e : q.hull.conical ≡ p.hull.conical = encloses_both q.hull.conical p.hull.conical o.0 o.1 in
    let runs : AreRunwayAreas p.hull.conical a.runways q.runways = subst (λ (c : Area). AreRunwayAreas c a.runways q.runways) e q.runway_areas in
    All-same (In b) xs (p.hull.horizontal ∷ p.hull.conical ∷ p.runways) p.ordered
    (All-cons (In b) p.hull.horizontal (p.hull.conical ∷ p.runways)
    (least_in _ p.hull.horizontal q.hull.horizontal b p.hull_areas.horizontal_least q.hull_areas.horizontal_least (All-head (In b) q.hull.horizontal (q.hull.conical ∷ q.runways) k))
    (All-cons (In b) p.hull.conical p.runways
    (least_in _ p.hull.conical q.hull.conical b p.hull_areas.conical_least q.hull_areas.conical_least (All-head (In b) q.hull.conical q.runways rest))
    (runways_in p.hull.conical b a.runways p.runways q.runways p.runway_areas runs (All-tail (In b) q.hull.conical q.runways rest))))

-- no surfaces are there twice over
no_hull : (a : Airport) (xs : List Area) → (dome_of a).arcs ≡ [] → ¬ HaveSurfaces a xs
no_hull a xs e s = no_least s.hull.conical (λ b. s.hull_areas.conical_least.least b (rw e (All-nil _)))

pub surfaces_once : (a : Airport) (b : Area) (xs ys : List Area) → AreSurfaceAreas a xs → AreSurfaceAreas a ys → All (In b) ys → All (In b) xs
surfaces_once a b xs ys (inl p) q h = All-same (In b) xs [] p.1 (All-nil (In b))
surfaces_once a b xs ys (inr p) (inl q) h = absurd (no_hull a xs q.0 p)
surfaces_once a b xs ys (inr p) (inr q) h = have_in a b xs ys p q h

pub notice_once : (a : Airport) (b : Area) (o p : Option Area) → MatchOption o (¬ HasSlope a) (IsNoticeArea a) → MatchOption p (¬ HasSlope a) (IsNoticeArea a) → All (In b) (option_to_list p) → All (In b) (option_to_list o)
notice_once a b None p h k l = All-nil (In b)
notice_once a b (Some box) None h k l = absurd (k h.has_slope)
notice_once a b (Some box) (Some other) h k l = All-cons (In b) box [] (least_in _ box other b h.runways_least k.runways_least (All-head (In b) other [] l)) (All-nil (In b))

-- ---- one list

least_same : (Holds : Area → Type 0) (a b : Area) → IsLeastBox Holds a → IsLeastBox Holds b → a ≡ b
least_same Holds a b h k = let o = least_once Holds a b h k in encloses_both a b o.0 o.1

six_same : (r : Runway) (hull : Area) (xs ys : List Area) → AreStripAreas r hull xs → AreStripAreas r hull ys → xs ≡ ys
six_same r hull xs ys p q =
    let s = p.six in
    let t = q.six in
    let e0 = least_same _ s.primary t.primary p.exact.primary_least q.exact.primary_least in
    let e1 = least_same _ s.approach1 t.approach1 p.exact.approach1_least q.exact.approach1_least in
    let e2 = least_same _ s.approach2 t.approach2 p.exact.approach2_least q.exact.approach2_least in
    let e3 = least_same _ s.beside_primary t.beside_primary p.exact.beside_primary_least q.exact.beside_primary_least in
    let e4 = least_same _ s.beside_approach1 t.beside_approach1 p.exact.beside_approach1_least q.exact.beside_approach1_least in
    let e5 = least_same _ s.beside_approach2 t.beside_approach2 p.exact.beside_approach2_least q.exact.beside_approach2_least in
    p.ordered ∙ (λ i. e0 i ∷ e1 i ∷ e2 i ∷ e3 i ∷ e4 i ∷ e5 i ∷ []) ∙ sym q.ordered

runways_same : (hull : Area) (rs : List Runway) (xs ys : List Area) → AreRunwayAreas hull rs xs → AreRunwayAreas hull rs ys → xs ≡ ys
runways_same hull [] xs ys p q = p ∙ sym q
runways_same hull (r ∷ rs) xs ys p q =
    let first = six_same r hull p.0 q.0 p.2 q.2 in
    let rest = runways_same hull rs p.1 q.1 p.3 q.3 in
    p.4 ∙ (λ i. first i ++ rest i) ∙ sym q.4

have_same : (a : Airport) (xs ys : List Area) → HaveSurfaces a xs → HaveSurfaces a ys → xs ≡ ys
have_same a xs ys p q =
    let h = least_same _ p.hull.horizontal q.hull.horizontal p.hull_areas.horizontal_least q.hull_areas.horizontal_least in
    let c = least_same _ p.hull.conical q.hull.conical p.hull_areas.conical_least q.hull_areas.conical_least in
    let runs : AreRunwayAreas q.hull.conical a.runways p.runways = subst (λ (b : Area). AreRunwayAreas b a.runways p.runways) c p.runway_areas in
    let rest = runways_same q.hull.conical a.runways p.runways q.runways runs q.runway_areas in
    p.ordered ∙ (λ i. h i ∷ c i ∷ rest i) ∙ sym q.ordered

surfaces_same : (a : Airport) (xs ys : List Area) → AreSurfaceAreas a xs → AreSurfaceAreas a ys → xs ≡ ys
surfaces_same a xs ys (inl p) (inl q) = p.1 ∙ sym q.1
surfaces_same a xs ys (inl p) (inr q) = absurd (no_hull a ys p.0 q)
surfaces_same a xs ys (inr p) (inl q) = absurd (no_hull a xs q.0 p)
surfaces_same a xs ys (inr p) (inr q) = have_same a xs ys p q

near_same : (a : Airport) (o p : Option Area) → MatchOption o (¬ HasLimit a) (IsNearArea a) → MatchOption p (¬ HasLimit a) (IsNearArea a) → o ≡ p
near_same a None None h k = refl
near_same a None (Some box) h k = absurd (h k.has_limit)
near_same a (Some box) None h k = absurd (k h.has_limit)
near_same a (Some box) (Some other) h k = ap Some (least_same _ box other h.disc_least k.disc_least)

notice_same : (a : Airport) (o p : Option Area) → MatchOption o (¬ HasSlope a) (IsNoticeArea a) → MatchOption p (¬ HasSlope a) (IsNoticeArea a) → o ≡ p
notice_same a None None h k = refl
notice_same a None (Some box) h k = absurd (h k.has_slope)
notice_same a (Some box) None h k = absurd (k h.has_slope)
notice_same a (Some box) (Some other) h k = ap Some (least_same _ box other h.runways_least k.runways_least)

airport_same : (a : Airport) (xs ys : List Area) → AreAirportAreas a xs → AreAirportAreas a ys → xs ≡ ys
airport_same a xs ys p q =
    let n = near_same a p.near q.near p.near_area q.near_area in
    let s = surfaces_same a p.surfaces q.surfaces p.surface_areas q.surface_areas in
    let o = notice_same a p.notice q.notice p.notice_area q.notice_area in
    p.ordered ∙ (λ i. option_to_list (n i) ++ s i ++ option_to_list (o i)) ∙ sym q.ordered

pad_same : (h : Heliport) (xs ys : List Area) → ArePadAreas h xs → ArePadAreas h ys → xs ≡ ys
pad_same h xs ys p q =
    let s = p.seven in
    let t = q.seven in
    let e0 = least_same _ s.primary t.primary p.exact.primary_least q.exact.primary_least in
    let e1 = least_same _ s.approach1 t.approach1 p.exact.approach1_least q.exact.approach1_least in
    let e2 = least_same _ s.approach2 t.approach2 p.exact.approach2_least q.exact.approach2_least in
    let e3 = least_same _ s.beside_primary t.beside_primary p.exact.beside_primary_least q.exact.beside_primary_least in
    let e4 = least_same _ s.beside_approach1 t.beside_approach1 p.exact.beside_approach1_least q.exact.beside_approach1_least in
    let e5 = least_same _ s.beside_approach2 t.beside_approach2 p.exact.beside_approach2_least q.exact.beside_approach2_least in
    let e6 = least_same _ s.notice t.notice p.exact.notice_least q.exact.notice_least in
    p.ordered ∙ (λ i. e0 i ∷ e1 i ∷ e2 i ∷ e3 i ∷ e4 i ∷ e5 i ∷ e6 i ∷ []) ∙ sym q.ordered

heliport_same : (h : Heliport) (c : Bool) (xs ys : List Area) → MatchBool c (ArePadAreas h xs) (xs ≡ []) → MatchBool c (ArePadAreas h ys) (ys ≡ []) → xs ≡ ys
heliport_same h true xs ys p q = pad_same h xs ys p q
heliport_same h false xs ys p q = p ∙ sym q

-- an airfield has one list of areas at most
pub areas_same : (f : Airfield) (xs ys : List Area) → AreAreas f xs → AreAreas f ys → xs ≡ ys
areas_same (AnAirport a) xs ys p q = airport_same a xs ys p q
areas_same (AHeliport h) xs ys p q = heliport_same h (is_described h.category) xs ys p q
