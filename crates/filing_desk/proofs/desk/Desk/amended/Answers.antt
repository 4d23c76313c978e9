use Rattle.std.proofs.Common.{subst}
use Rattle.airport_register.specs.Amendments.{amended_id}
use Rattle.airport_register.specs.Registers.{IsRegister}
use Rattle.filing_desk.proofs.AmendFacts.{held_change}
use Rattle.filing_desk.proofs.desk.Desk.amended.Goals as goal

pub returns-in-Ok-clause-held : goal.returns-in-Ok-clause-held
returns-in-Ok-clause-held c =
    held_change c.self.inside.sky c.in-Ok.sky (amended_id c.args.a.now) c.in-Ok.changed (subst IsRegister c.register.ensures c.limits.ensures) (subst IsRegister c.register-in-Ok.ensures c.limits-in-Ok.ensures) c.in-Ok.ensures.change
