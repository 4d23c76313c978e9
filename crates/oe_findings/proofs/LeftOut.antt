-- Each list of an airfield's areas leaves out what the airfield has nothing for.
use Rattle.std.proofs.Common.{◌≡◌, ℤ, List, [], ◌∷◌, ◌++◌, Option, Some, None, Bool, true, false, inl, inr, refl, sym, ap, ◌∙◌, subst}
use Rattle.std.proofs.lemmas.Bool.{cases_Bool}
use Rattle.std.proofs.lemmas.List.Elements.{All-head, All-tail}
use Rattle.std.proofs.lemmas.List.{append_assoc}
use Rattle.std.proofs.lemmas.Grind.{flat_map-append}
use Rattle.std.specs.Bool.{MatchBool}
use Rattle.std.specs.List.{All, flat_map}
use Rattle.std.specs.Option.{IsSomeAnd, MatchOption, option_to_list}
use Rattle.grid_exact.specs.Area.{Has}
use Rattle.grid_exact.specs.Level.{IsLevel}
use Rattle.grid_exact.specs.declared.area.Area.{Area}
use Rattle.grid_exact.specs.declared.cap.Cap.{Cap}
use Rattle.grid_exact.specs.declared.point.Point.{Point}
use Rattle.airfields.specs.Airfields.{IsHeld, IsHeldAirport, IsHeldHeliport}
use Rattle.airfields.specs.Categories.{is_described}
use Rattle.airfields.specs.Runways.{IsProper}
use Rattle.airfields.specs.Sites.{Site}
use Rattle.airfields.specs.declared.airfield.Airfield.{Airfield}
use Rattle.airfields.specs.declared.airfield.Airfield.TheVariants.{Airport as AnAirport, Heliport as AHeliport}
use Rattle.airfields.specs.declared.airfield.Airport.{Airport}
use Rattle.airfields.specs.declared.airfield.Heliport.{Heliport}
use Rattle.airfields.specs.declared.runway.Runway.{Runway}
use Rattle.height_rules.specs.NearAirport.{IsNear, near_excess}
use Rattle.height_rules.specs.NearAreas.{HasLimit, IsNearArea}
use Rattle.height_rules.proofs.AreaFacts.{near_has, skipped}
use Rattle.heliport_surfaces.specs.Areas.{ArePadAreas, SkipsIn as PadSkips}
use Rattle.heliport_surfaces.proofs.AreaFacts.{pad_skips}
use Rattle.horizontal_hull.specs.Arcs.{dome_of}
use Rattle.horizontal_hull.proofs.Reach.{areas_cover}
use Rattle.imaginary_surfaces.specs.Areas.{AreStripAreas, HullHas, SkipsIn}
use Rattle.imaginary_surfaces.proofs.AreaFacts.{strip_skips}
use Rattle.runway_notice.specs.NoticeAreas.{HasSlope, IsNoticeArea}
use Rattle.runway_notice.specs.Notices.{notice_slope}
use Rattle.runway_notice.proofs.AreaFacts.{area_covers, area_skips, none_listed}
use Rattle.airfield_findings.specs.Entries.{of_runway}
use Rattle.airfield_findings.proofs.ReachFacts.{surfaces_nowhere}
use Rattle.airfield_findings.specs.Areas.{AreAirportAreas, AreAreas, AreRunwayAreas, AreSurfaceAreas}
use Rattle.airfield_findings.proofs.Joins.{left, right}
use Rattle.oe_findings.specs.Outside.{IsOutside, LeavesOut, LeavesRunwaysOut, LeavesSurfacesOut}
use Rattle.oe_findings.proofs.OutsideFacts.{airport_left_out, heliport_left_out, runway_outside, surfaces_left_out, undescribed_left_out}

near_none : (a : Airport) (near : Option Area) → MatchOption near (¬ HasLimit a) (IsNearArea a) → (s : Site) → ¬ IsSomeAnd near (λ b. Has b s.at) → near_excess a s ≡ None
near_none a None h = skipped a None (λ s n. h (record { described = n.described; long = n.long }))
near_none a (Some box) h = skipped a (Some box) (λ s n. near_has a box s h.disc_least n)

notice_none : (a : Airport) (notice : Option Area) → IsHeldAirport a → MatchOption notice (¬ HasSlope a) (IsNoticeArea a) → (x : Point) (top : ℤ) → ¬ IsSomeAnd notice (λ b. Has b x) → notice_slope a x top ≡ None
notice_none a None held h = area_skips a None (λ r x k i. h (record { described = i.described; some_runway = λ e. none_listed [] a.runways r refl (sym e) k }))
notice_none a (Some box) held h = area_skips a (Some box) (area_covers a box held h.runways_least)

strip_in : (r : Runway) (hull : Area) (areas : List Area) → IsProper r → AreStripAreas r hull areas → (x : Point) (top : ℤ) (cap : Cap) → IsLevel top → HullHas hull x cap → SkipsIn r x top cap areas
strip_in r hull areas proper h x top cap level has =
    record { six = h.six; ordered = h.ordered; skips = strip_skips r hull h.six x top cap proper h.covers level has }

runways_out : (hull : Area) (rs : List Runway) (areas : List Area) → All IsProper rs → AreRunwayAreas hull rs areas → LeavesRunwaysOut hull rs areas
runways_out hull [] areas proper h id x top cap level has n = refl
runways_out hull (r ∷ rs) areas proper h id x top cap level has n =
    let both : IsOutside (h.0 ++ h.1) x = subst (λ (ys : List Area). IsOutside ys x) h.4 n in
    let first : of_runway id x top cap r ≡ [] = runway_outside r h.0 id x top cap (strip_in r hull h.0 (All-head IsProper r rs proper) h.2 x top cap level has) (left (λ a. ¬ Has a x) h.0 h.1 both) in
    let rest : flat_map (of_runway id x top cap) rs ≡ [] = runways_out hull rs h.1 (All-tail IsProper r rs proper) h.3 id x top cap level has (right (λ a. ¬ Has a x) h.0 h.1 both) in
    rw (first, rest) refl

surfaces_out : (a : Airport) (areas : List Area) → IsHeldAirport a → AreSurfaceAreas a areas → LeavesSurfacesOut a areas
surfaces_out a areas held (inl none) = λ x top level n. surfaces_nowhere a x top held none.0 level
surfaces_out a areas held (inr h) =
    rw h.ordered (surfaces_left_out a h.hull h.runways held (areas_cover (dome_of a) h.hull h.hull_areas) (runways_out h.hull.conical a.runways h.runways held.proper h.runway_areas))

heliport_out : (h : Heliport) (c : Bool) (areas : List Area) → IsHeldHeliport h → is_described h.category ≡ c → MatchBool c (ArePadAreas h areas) (areas ≡ []) → LeavesOut (AHeliport h) areas
heliport_out h true areas held e p =
    heliport_left_out h areas (λ x top level. record { seven = p.seven; ordered = p.ordered; skips = pad_skips h p.seven x top held p.covers level })
heliport_out h false areas held e p = undescribed_left_out h areas e

pub areas_out : (f : Airfield) (areas : List Area) → IsHeld f → AreAreas f areas → LeavesOut f areas
areas_out (AnAirport a) areas held h =
    rw h.ordered (airport_left_out a h.near h.notice h.surfaces (near_none a h.near h.near_area) (surfaces_out a h.surfaces held h.surface_areas) (notice_none a h.notice held h.notice_area))
areas_out (AHeliport h) areas held p = heliport_out h (is_described h.category) areas held refl p
