use Rattle.std.proofs.Common.{sym}
use Rattle.oe_commands.proofs.run.ask.Goals as goal

pub returns-clause-told : goal.returns-clause-told
returns-clause-told g c = rw (sym c.sky-sky.ensures, sym c.accepted.ensures) c.questions.ensures.told
