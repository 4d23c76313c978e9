use Rattle.row_cases.proofs.ListFacts.{one_more_entry, one_more_whole, not_read}
use Rattle.row_cases.proofs.judged.take_entries.Goals as goal

pub returns-in_default-entry-clause-none : goal.returns-in_default-entry-clause-none
returns-in_default-entry-clause-none c = λ list h e. not_read c.args.parts.now _ _ _ list _ c.loop-text.invariant.read c.in-Some.ensures.some c.in_default-entry.ensures.none h e

pub loop-text-preserved : goal.loop-text-preserved
loop-text-preserved c =
    rw c.in_ok-push.ensures.pushed record {
      read = one_more_entry c.args.parts.now _ _ _ _ _ c.loop-text.invariant.read c.in-Some.ensures.some c.in-Some-entry.ensures.some;
      whole = one_more_whole _ _ c.loop-text.invariant.whole c.in-Some-entry.ensures.whole;
    }
