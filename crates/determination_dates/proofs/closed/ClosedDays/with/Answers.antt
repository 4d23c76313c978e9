use Rattle.determination_dates.proofs.ClosedFacts.{limited_after}
use Rattle.determination_dates.proofs.closed.ClosedDays.with.Goals as goal

pub invariant_of-self : goal.invariant_of-self
invariant_of-self c = record {
  rising = c.insert.ensures.ordered;
  limited = limited_after c.insert.result _ c.args.d _ _ c.self.invariant.limited c.requires c.insert.ensures.keys c.insert.ensures.err;
}
