use Rattle.std.proofs.Common.{sym, true≢false}
use Rattle.determination_dates.proofs.ComputedFacts.{affirmed_none}
use Rattle.determination_dates.proofs.determination.Record.affirm.Goals as goal

pub returns-then-not-is_in_range-clause-computed : goal.returns-then-not-is_in_range-clause-computed
returns-then-not-is_in_range-clause-computed c = affirmed_none c.args.day c.args.self.now c.requires.day c.requires.kept (λ i. true≢false (sym (c.if-not-is_in_range.ensures.1 i)))
