use Rattle.std.proofs.Common.{ℤ, sym, ◌∙◌, subst}
use Rattle.grid_exact.specs.Level.{IsLevel}
use Rattle.grid_exact.specs.declared.point.Point.{Point}
use Rattle.airfields.specs.declared.airfield.Heliport.{Heliport}
use Rattle.heliport_surfaces.specs.Areas.{SkipsIn}
use Rattle.oe_findings.proofs.OutsideFacts.{heliport_left_out, undescribed_left_out}
use Rattle.oe_findings.proofs.area_list.of_heliport.Goals as goal

pub returns-then-not-described-clause-outside : goal.returns-then-not-described-clause-outside
returns-then-not-described-clause-outside c = undescribed_left_out c.args.heliport.now c.new.result.items (sym c.described.ensures ∙ c.if-not-described.true)

pub returns-clause-outside : goal.returns-clause-outside
returns-clause-outside c =
    let areas = c.areas.result in
    rw c.in_ok-from_slice.ensures.items
    (heliport_left_out c.args.heliport.now areas (subst (λ (h : Heliport). (x : Point) (top : ℤ) → IsLevel top → SkipsIn h x top areas) c.of.ensures.heliport c.areas.ensures.skips))
