use Rattle.std.proofs.Common.{ap, ◌∙◌}
use Rattle.determination_dates.specs.Closed.{without_day}
use Rattle.determination_dates.proofs.ClosedFacts.{limited_without, without_with}
use Rattle.determination_dates.proofs.closed.ClosedDays.without.Goals as goal

pub invariant_of-self : goal.invariant_of-self
invariant_of-self c = record {
  rising = c.remove.ensures.ordered;
  limited = rw c.remove.ensures.keys (limited_without c.args.d c.self.inside.days.keys c.self.invariant.limited);
}

pub returns-clause-taken : goal.returns-clause-taken
returns-clause-taken c = c.remove.ensures.keys ∙ ap (without_day c.args.d) c.self.view_is

pub returns-clause-undone : goal.returns-clause-undone
returns-clause-undone c = λ before was fresh. c.remove.ensures.keys ∙ ap (without_day c.args.d) (c.self.view_is ∙ was) ∙ without_with c.args.d before fresh
