use Rattle.std.proofs.Common.{ap, sym, ◌∙◌}
use Rattle.std.specs.Prelude.{is_some}
use Rattle.oe_findings.specs.Screenings.{exceeds_over}
use Rattle.oe_findings.proofs.Standards.{by_airfields}
use Rattle.oe_findings.proofs.sky.Sky.is_obstruction.Goals as goal

pub returns-clause-found : goal.returns-clause-found
returns-clause-found g c =
    by_airfields c.args.self.now c.args.filing.now _ (ap is_some (sym c.excess_499.ensures.value) ∙ sym c.is_some.ensures ∙ c.if-is_some.false)
    (c.exceeded.ensures.found ∙ ap (exceeds_over c.args.filing.now) (c.self.invariant ∙ c.self.view_is))
