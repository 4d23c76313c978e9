use Rattle.std.proofs.Common.{◌≡◌, ◌≤◌, length}
use Rattle.review_marks.specs.Books.{is_marked_in, numbers_up_to}
use Rattle.review_marks.proofs.book.MarkBook.marked.Given as goal

abbrev pub invariant-loop-place : goal.invariant-loop-place
invariant-loop-place l = (l.count ≡ length (numbers_up_to (is_marked_in l.self) l.place)) × (l.count ≤ l.place)
