use Rattle.std.proofs.Common.{◌≡◌, pos, subst, ap, ◌∙◌}
use Rattle.airfields.specs.Airfields.{IsHeldHeliport}
use Rattle.airfields.specs.declared.airfield.Heliport.{Heliport}
use Rattle.grid_exact.specs.Area.{Has}
use Rattle.grid_exact.specs.Lines.{offset}
use Rattle.outline_boxes.specs.Boxes.{IsLeastBox}
use Rattle.outline_boxes.specs.Rectangles.{HasRectangle, HasRectangleWithin}
use Rattle.outline_boxes.specs.Trapezoids.{HasTrapezoid}
use Rattle.heliport_surfaces.specs.Areas.{approach_outline, approach_side_outline, landing_outline, landing_side_outline}
use Rattle.heliport_surfaces.specs.Approaches.{Approach, approach_place}
use Rattle.heliport_surfaces.specs.Landings.{Landing, primary_place}
use Rattle.heliport_surfaces.specs.Notices.{IsWithin, gap}
use Rattle.heliport_surfaces.specs.Pads.{landing_of, approach_of}
use Rattle.heliport_surfaces.specs.Places.{IsCovered, IsCoveredBeside}
use Rattle.heliport_surfaces.specs.Shapes.{landing_shape, approach_shape}
use Rattle.heliport_surfaces.specs.declared.parts.PadEnd.TheVariants.{One, Two}
use Rattle.heliport_surfaces.proofs.pad.Pad.seven_areas.Goals as goal
use Rattle.heliport_surfaces.proofs.pad.Pad.seven_areas.Goals.{After-area_of_notice}

landing_is : (c : After-area_of_notice) → landing_shape c.self.inside.landing ≡ landing_of c.args.self.now
landing_is c = c.self.invariant.landing_is ∙ ap landing_of c.self.view_is

one_is : (c : After-area_of_notice) → approach_shape c.self.inside.approach1 ≡ approach_of c.args.self.now One
one_is c = c.self.invariant.approach1_is ∙ ap (λ (h : Heliport). approach_of h One) c.self.view_is

two_is : (c : After-area_of_notice) → approach_shape c.self.inside.approach2 ≡ approach_of c.args.self.now Two
two_is c = c.self.invariant.approach2_is ∙ ap (λ (h : Heliport). approach_of h Two) c.self.view_is

pub returns-clause-exact : goal.returns-clause-exact
returns-clause-exact c = record {
  primary_least = subst (λ (l : Landing). IsLeastBox (HasRectangle (landing_outline l)) c.area.result) (landing_is c) c.area.ensures.exact;
  approach1_least = subst (λ (a : Approach). IsLeastBox (HasTrapezoid (approach_outline a)) c.area-2.result) (one_is c) c.area-2.ensures.exact;
  approach2_least = subst (λ (a : Approach). IsLeastBox (HasTrapezoid (approach_outline a)) c.area-3.result) (two_is c) c.area-3.ensures.exact;
  beside_primary_least = subst (λ (l : Landing). IsLeastBox (HasRectangle (landing_side_outline l)) c.area_beside.result) (landing_is c) c.area_beside.ensures.exact;
  beside_approach1_least = subst (λ (a : Approach). IsLeastBox (HasTrapezoid (approach_side_outline a)) c.area_beside-2.result) (one_is c) c.area_beside-2.ensures.exact;
  beside_approach2_least = subst (λ (a : Approach). IsLeastBox (HasTrapezoid (approach_side_outline a)) c.area_beside-3.result) (two_is c) c.area_beside-3.ensures.exact;
  notice_least = subst (λ (l : Landing). IsLeastBox (HasRectangleWithin (landing_outline l) (pos 50000)) c.area_of_notice.result) (landing_is c) c.area_of_notice.ensures.exact;
}

pub returns-clause-covers : goal.returns-clause-covers
returns-clause-covers c = record {
  primary_has = λ x h. subst (λ (l : Landing). IsCovered (primary_place l (offset l.line x)) → Has c.area.result x) (landing_is c) (c.area.ensures.covers x) h.covered;
  approach1_has = λ x h. subst (λ (a : Approach). IsCovered (approach_place a (offset a.line x)) → Has c.area-2.result x) (one_is c) (c.area-2.ensures.covers x) h.covered;
  approach2_has = λ x h. subst (λ (a : Approach). IsCovered (approach_place a (offset a.line x)) → Has c.area-3.result x) (two_is c) (c.area-3.ensures.covers x) h.covered;
  beside_primary_has = λ x h. subst (λ (l : Landing). IsCoveredBeside (primary_place l (offset l.line x)) → Has c.area_beside.result x) (landing_is c) (c.area_beside.ensures.covers x) h.covered;
  beside_approach1_has = λ x h. subst (λ (a : Approach). IsCoveredBeside (approach_place a (offset a.line x)) → Has c.area_beside-2.result x) (one_is c) (c.area_beside-2.ensures.covers x) h.covered;
  beside_approach2_has = λ x h. subst (λ (a : Approach). IsCoveredBeside (approach_place a (offset a.line x)) → Has c.area_beside-3.result x) (two_is c) (c.area_beside-3.ensures.covers x) h.covered;
  notice_has = λ x h. subst (λ (l : Landing). IsWithin (gap l (offset l.line x)) 50000 → Has c.area_of_notice.result x) (landing_is c) (c.area_of_notice.ensures.covers x) h.covered;
}

pub returns-clause-held : goal.returns-clause-held
returns-clause-held c = subst (λ (h : Heliport). IsHeldHeliport h) c.self.view_is c.self.invariant.held
