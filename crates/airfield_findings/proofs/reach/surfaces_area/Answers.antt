use Rattle.std.proofs.Common.{List, [], ◌∷◌, inl, inr, refl, subst, ap, sym, ◌∙◌}
use Rattle.std.specs.List.{All}
use Rattle.std.proofs.lemmas.List.Elements.{All-head}
use Rattle.airfields.specs.declared.runway.Runway.{Runway}
use Rattle.grid_exact.specs.declared.area.Area.{Area}
use Rattle.outline_boxes.specs.Boxes.{Encloses}
use Rattle.horizontal_hull.specs.Arcs.{Dome}
use Rattle.horizontal_hull.specs.Areas.{AreHullAreas, CoverHull}
use Rattle.airfield_findings.specs.Areas.{AreRunwayAreas}
use Rattle.airfield_findings.proofs.Conical.{horizontal_in}
use Rattle.airfield_findings.proofs.Joins.{join_inner}
use Rattle.airfield_findings.specs.Reaches.{IsRunwayReach}
use Rattle.airfield_findings.proofs.ReachFacts.{surfaces_none, surfaces_nowhere}
use Rattle.airfield_findings.proofs.reach.surfaces_area.Goals as goal

pub returns-clause-outside : goal.returns-clause-outside
returns-clause-outside c = λ a held hull strips x top level n.
    let areas = c.in-Some.areas in
    let all = c.strips_area.result in
    let h = c.strips_area.ensures.listed in
    surfaces_none a areas all x top held (subst (λ (d : Dome). CoverHull d areas) hull c.in-Some.ensures.covers) (All-head (λ (t : Area). Encloses all t) areas.conical h.0 h.2.holds)
    (subst (λ (rs : List Runway). All (λ r. IsRunwayReach areas.conical r all) rs) strips c.strips_area.ensures.runways) level n

pub returns-clause-listed : goal.returns-clause-listed
returns-clause-listed c = λ a hull strips.
    let areas = c.in-Some.areas in
    let h = c.strips_area.ensures.listed in
    let exact = subst (λ (d : Dome). AreHullAreas d.arcs areas) hull c.in-Some.ensures.exact in (
      areas.horizontal ∷ areas.conical ∷ h.0,
      inr (record { hull = areas; runways = h.0; hull_areas = exact; runway_areas = subst (λ (rs : List Runway). AreRunwayAreas areas.conical rs h.0) strips h.1; ordered = refl }),
      ((λ e. absurd (cc)), join_inner areas.horizontal areas.conical c.strips_area.result h.0 (horizontal_in _ areas exact) h.2),
    )

pub returns-in_default-clause-outside : goal.returns-in_default-clause-outside
returns-in_default-clause-outside c = λ a held hull strips x top level n.
    surfaces_nowhere a x top held (ap (λ (d : Dome). d.arcs) (sym hull) ∙ c.in_default.ensures.exact) level

pub returns-in_default-clause-listed : goal.returns-in_default-clause-listed
returns-in_default-clause-listed c = λ a hull strips. ([], inl (ap (λ (d : Dome). d.arcs) (sym hull) ∙ c.in_default.ensures.exact, refl), refl)
