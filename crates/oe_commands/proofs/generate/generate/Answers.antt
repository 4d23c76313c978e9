use Rattle.oe_commands.proofs.GenerateFacts.{none_made}
use Rattle.oe_commands.proofs.generate.generate.Goals as goal

pub returns-in_default-clause-writes : goal.returns-in_default-clause-writes
returns-in_default-clause-writes g c = none_made _ _ _
