use Rattle.std.proofs.Common.{◌≡◌, None, sym, subst}
use Rattle.grid_exact.specs.Area.{Has}
use Rattle.grid_exact.specs.Level.{IsLevel}
use Rattle.grid_exact.specs.declared.point.Point.{Point}
use Rattle.grid_exact.proofs.Booleans.{not_from_false}
use Rattle.airfields.specs.declared.airfield.Airport.{Airport}
use Rattle.height_rules.specs.Heights.{notice_top}
use Rattle.runway_notice.specs.Notices.{notice_slope}
use Rattle.outline_boxes.specs.Bounds.{box_of}
use Rattle.airfield_findings.proofs.prepared_airport.PreparedAirport.excess_notice.Goals as goal

pub returns-then-not-has : goal.returns-then-not-has
returns-then-not-has c =
    let s = c.args.structure.now in
    let level : IsLevel (notice_top s) = subst IsLevel c.notice_top-top.ensures.value c.notice_top-top.ensures.level in
    let outside : Has (box_of c.self.inside.notice) s.at → ⊥ = λ h. not_from_false c.has.result c.has.ensures.inside.1 c.if-not-has.true (subst (λ (x : Point). Has (box_of c.self.inside.notice) x) (sym c.spot.ensures) h) in
    sym (subst (λ (a : Airport). notice_slope a s.at (notice_top s) ≡ None) c.self.view_is (c.self.invariant.reach.notice_none s.at (notice_top s) level outside))
