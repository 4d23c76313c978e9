use Rattle.std.proofs.Common.{take, drop}
use Rattle.review_marks.specs.Shares.{change_of}
use Rattle.review_marks.specs.Turns.{IsTurnedTo}
use Rattle.review_marks.proofs.Turning.{IsAt}
use Rattle.review_marks.proofs.book.MarkBook.amended.Given as goal

abbrev pub invariant-loop-i : goal.invariant-loop-i
invariant-loop-i g l =
    IsTurnedTo l.sky (change_of l.changed) l.self l.marks.items (take l.i l.reached.items)
    × IsAt (change_of l.changed) l.self (drop l.i l.reached.items) l.fn.steps l.steps
