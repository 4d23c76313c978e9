use Rattle.std.proofs.Common.{◌∙◌, subst}
use Rattle.airport_register.specs.Registers.{IsRegister}
use Rattle.oe_findings.proofs.Counts.{counted}
use Rattle.oe_findings.proofs.sky.Sky.verdict.Goals as goal

pub returns-clause-found : goal.returns-clause-found
returns-clause-found g c =
    c.in-Ok.ensures.taken ∙ counted c.args.self.now c.args.filing.now (subst IsRegister c.self.view_is c.limits.ensures)
