use Rattle.std.proofs.Common.{None, rules}
use Rattle.horizontal_hull.proofs.Listed.{horizontal_listed}
use Rattle.horizontal_hull.proofs.Standings.{beyond_none}
use Rattle.horizontal_hull.proofs.hull.Hull.excess_horizontal_at.Goals as goal

pub returns-in-Horizontal-clause-value : goal.returns-in-Horizontal-clause-value
returns-in-Horizontal-clause-value c = λ x h. horizontal_listed c.args.self.now x c.args.top c.flat_excess.result c.flat_excess.ensures.size (search rules)

pub returns-in-Conical-clause-value : goal.returns-in-Conical-clause-value
returns-in-Conical-clause-value c = λ x h. horizontal_listed c.args.self.now x c.args.top None tt (search rules)

pub returns-in-Beyond-clause-exact : goal.returns-in-Beyond-clause-exact
returns-in-Beyond-clause-exact c = λ x h. beyond_none c.args.self.now x c.args.top (rw c.in-Beyond.is at h)

pub returns-in-Beyond-clause-value : goal.returns-in-Beyond-clause-value
returns-in-Beyond-clause-value c = λ x h. horizontal_listed c.args.self.now x c.args.top None tt (beyond_none c.args.self.now x c.args.top (rw c.in-Beyond.is at h))
