use Rattle.std.proofs.Common.{◌≡◌, [], subst}
use Rattle.grid_exact.specs.Area.{Has}
use Rattle.grid_exact.proofs.Booleans.{not_from_false}
use Rattle.airfields.specs.declared.airfield.Airport.{Airport}
use Rattle.outline_boxes.specs.Bounds.{box_of}
use Rattle.airfield_findings.specs.Entries.{of_surfaces}
use Rattle.airfield_findings.proofs.prepared_airport.PreparedAirport.has_surfaces_over.Goals as goal

pub returns : goal.returns
returns c = record {
  none = λ f top level.
      let at = c.args.spot.now in
      let outside : Has (box_of c.self.inside.surfaces) at → ⊥ = λ h. not_from_false c.has.result c.has.ensures.inside.1 f h in
      subst (λ (a : Airport). of_surfaces at top a ≡ []) c.self.view_is (c.self.invariant.reach.surfaces_none at top level outside);
}
