use Rattle.std.proofs.Common.{None, rules}
use Rattle.horizontal_hull.proofs.Listed.{conical_listed}
use Rattle.horizontal_hull.proofs.hull.Hull.excess_conical.Goals as goal

pub returns-then-top-self-clause-value : goal.returns-then-top-self-clause-value
returns-then-top-self-clause-value c = conical_listed c.args.self.now c.args.x.now c.args.top None tt (search rules)
