use Rattle.oe_findings.proofs.Nears.{one_near}
use Rattle.oe_findings.proofs.surroundings.Surroundings.near_number.Goals as goal

pub returns : goal.returns
returns c = one_near c.self.inside.tree c.args.self.now c.self.view_is
