use Rattle.std.proofs.Common.{◌≡◌, ◌∙◌, None, sym, subst, FitsSigned, w64, to_z-of_z, arith}
use Rattle.std.proofs.lemmas.Int.{ints}
use Rattle.grid_exact.specs.Area.{Has}
use Rattle.grid_exact.specs.declared.point.Point.{Point}
use Rattle.grid_exact.proofs.Booleans.{not_from_false}
use Rattle.airfields.specs.declared.airfield.Airport.{Airport}
use Rattle.height_rules.specs.NearAirport.{near_excess}
use Rattle.height_rules.specs.NearAreas.{IsLimited}
use Rattle.outline_boxes.specs.Bounds.{box_of}
use Rattle.airfield_findings.proofs.prepared_airport.PreparedAirport.excess_near.Goals as goal

pub returns-then-not-has : goal.returns-then-not-has
returns-then-not-has c =
    let s = c.args.structure.now in
    let outside : Has (box_of c.self.inside.near) s.at → ⊥ = λ h. not_from_false c.has.result c.has.ensures.inside.1 c.if-not-has.true (subst (λ (x : Point). Has (box_of c.self.inside.near) x) (sym c.spot.ensures) h) in
    sym (subst (λ (a : Airport). near_excess a s ≡ None) c.self.view_is (c.self.invariant.reach.near_none s outside))

pub returns : goal.returns
returns c =
    let s = c.args.structure.now in
    let fe : FitsSigned w64 c.elevation.result = omega (arith, ints) in
    let datum = c.self.invariant.datum_is in
    let inside : Has (box_of c.self.inside.near) s.at = subst (λ (x : Point). Has (box_of c.self.inside.near) x) c.spot.ensures (c.has.ensures.inside.0 c.if-not-has.false) in
    let k : IsLimited c.self.inside.airport c.point.result c.elevation.result = record {
      limit = c.self.invariant.reach.near_limit s.at inside;
      x_is = sym (c.point.ensures.x ∙ datum.x_is);
      y_is = sym (c.point.ensures.y ∙ datum.y_is);
      elevation_is = sym (c.elevation.ensures ∙ datum.elevation_is);
    } in
    subst (λ (a : Airport). c.excess_near_limited.result ≡ near_excess a s) c.self.view_is ((simp to_z-of_z at c.excess_near_limited.ensures.value) c.self.inside.airport k)
