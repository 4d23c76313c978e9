use Rattle.std.proofs.Common.{◌≡◌, ◌++◌, ◌∷◌, [], List, refl, sym, ap, ◌∙◌, subst, inl, inr}
use Rattle.std.proofs.lemmas.List.{append-nil, append_assoc}
use Rattle.std.proofs.lemmas.Result.{on_ok_weaker}
use Rattle.grid_exact.specs.declared.area.Area.{Area}
use Rattle.airfields.specs.declared.runway.Runway.{Runway}
use Rattle.horizontal_hull.specs.Arcs.{Dome, dome_of}
use Rattle.horizontal_hull.specs.Areas.{AreHullAreas, CoverHull}
use Rattle.airfield_findings.proofs.ReachFacts.{surfaces_nowhere}
use Rattle.airfield_findings.specs.Areas.{AreRunwayAreas}
use Rattle.oe_findings.specs.Outside.{LeavesRunwaysOut}
use Rattle.oe_findings.proofs.OutsideFacts.{surfaces_left_out}
use Rattle.oe_findings.proofs.area_list.push_surfaces.Goals as goal

two_more : (front : List Area) (a b : Area) (rest : List Area) → ((front ++ a ∷ []) ++ b ∷ []) ++ rest ≡ front ++ a ∷ b ∷ rest
two_more front a b rest = append_assoc (front ++ a ∷ []) (b ∷ []) rest ∙ append_assoc front (a ∷ []) (b ∷ rest)

pub returns-in_default : goal.returns-in_default
returns-in_default c =
    let a = c.args.airport.now in
    let none : (dome_of a).arcs ≡ [] = ap (λ (d : Dome). d.arcs) (sym c.in_ok-hull.ensures.dome) ∙ c.in_default.ensures.exact in
    ([], inl (none, refl), (λ x top level n. surfaces_nowhere a x top c.requires.held none level), sym (append-nil c.args.areas.now.items))

pub returns : goal.returns
returns c =
    let a = c.args.airport.now in
    let s = c.in-Some.surfaces in
    let exact = subst (λ (d : Dome). AreHullAreas d.arcs s) c.in_ok-hull.ensures.dome c.in-Some.ensures.exact in
    let covers = subst (λ (d : Dome). CoverHull d s) c.in_ok-hull.ensures.dome c.in-Some.ensures.covers in
    on_ok_weaker c.push_runways.result
    (λ h.
    let runways = subst (λ (rs : List Runway). AreRunwayAreas s.conical rs h.0) c.as_slice.ensures.value h.1 in
    let outside = subst (λ (rs : List Runway). LeavesRunwaysOut s.conical rs h.0) c.as_slice.ensures.value h.2 in (
      s.horizontal ∷ s.conical ∷ h.0,
      inr (record { hull = s; runways = h.0; hull_areas = exact; runway_areas = runways; ordered = refl }),
      surfaces_left_out a s h.0 c.requires.held covers outside,
      h.3 ∙ ap (λ zs. zs ++ h.0) (c.in_ok-push-2.ensures.items ∙ ap (λ zs. zs ++ s.conical ∷ []) c.in_ok-push.ensures.items) ∙ two_more c.args.areas.now.items s.horizontal s.conical h.0,
    ))
    c.push_runways.ensures
