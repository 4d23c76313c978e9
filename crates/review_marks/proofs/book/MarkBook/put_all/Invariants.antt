use Rattle.std.proofs.Common.{◌≡◌, drop}
use Rattle.review_marks.specs.Books.{with_marks}
use Rattle.review_marks.proofs.book.MarkBook.put_all.Given as goal

abbrev pub invariant-loop-mark : goal.invariant-loop-mark
invariant-loop-mark l = with_marks (drop l.mark-index l.marks) l.self ≡ with_marks l.marks l.fn.self
