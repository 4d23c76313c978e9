use Rattle.review_marks.specs.Nearby.{AreSites}
use Rattle.review_marks.specs.Turns.{ClimbsTo, HasReached}
use Rattle.review_marks.proofs.book.MarkBook.reached.Given as goal

abbrev pub invariant-loop-place : goal.invariant-loop-place
invariant-loop-place l = HasReached l.change l.self l.numbers.items l.place × ClimbsTo 0 l.numbers.items l.place × AreSites l.self l.place
