use Rattle.std.proofs.Common.{arith}
use Rattle.review_marks.proofs.book.MarkBook.reached.Goals as goal

pub returns-clause-sites : goal.returns-clause-sites
returns-clause-sites c = λ k r l e. c.loop-place.invariant.2 k r (omega (arith, l, c.loop-place-test.false, c.last_number-place-end.ensures)) e
