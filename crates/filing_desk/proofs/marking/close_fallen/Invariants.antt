use Rattle.filing_desk.proofs.Closing.{IsClosedTo}
use Rattle.filing_desk.proofs.marking.close_fallen.Given as goal

abbrev pub invariant-loop-number : goal.invariant-loop-number
invariant-loop-number l = IsClosedTo l.desk l.fn.marks l.number l.marks

abbrev pub decreases-loop-number : goal.decreases-loop-number
decreases-loop-number l = l.number
