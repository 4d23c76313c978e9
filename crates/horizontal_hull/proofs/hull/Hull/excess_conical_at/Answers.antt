use Rattle.std.proofs.Common.{None, rules}
use Rattle.horizontal_hull.proofs.Listed.{conical_listed}
use Rattle.horizontal_hull.proofs.hull.Hull.excess_conical_at.Goals as goal

pub returns-in-Horizontal-clause-value : goal.returns-in-Horizontal-clause-value
returns-in-Horizontal-clause-value c = conical_listed c.args.self.now c.args.x.now c.args.top None tt (search rules)

pub returns-in-Horizontal-2-clause-value : goal.returns-in-Horizontal-2-clause-value
returns-in-Horizontal-2-clause-value c = conical_listed c.args.self.now c.args.x.now c.args.top None tt (search rules)
