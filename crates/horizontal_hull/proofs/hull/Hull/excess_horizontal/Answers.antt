use Rattle.std.proofs.Common.{None, FitsSigned, w64, to_z-of_z, rules}
use Rattle.horizontal_hull.proofs.Listed.{horizontal_listed}
use Rattle.horizontal_hull.proofs.hull.Hull.excess_horizontal.Goals as goal

pub returns-then-top-self-clause-value : goal.returns-then-top-self-clause-value
returns-then-top-self-clause-value c = horizontal_listed c.args.self.now c.args.x.now c.args.top None tt (search rules)

pub returns-clause-exact : goal.returns-clause-exact
returns-clause-exact c =
    let fits : FitsSigned w64 c.args.top = c.ranges.top in
    simp to_z-of_z at (c.excess_horizontal_at.ensures.exact c.args.x.now c.standing.ensures)
