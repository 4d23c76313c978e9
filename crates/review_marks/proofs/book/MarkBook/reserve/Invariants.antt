use Rattle.std.proofs.Common.{◌≡◌, ◌-◌, ◌<◌, ◌^◌, ℕ, length}
use Rattle.review_marks.specs.Books.{row_at}
use Rattle.review_marks.proofs.book.MarkBook.reserve.Given as goal

abbrev pub invariant-loop-self : goal.invariant-loop-self
invariant-loop-self l = ((n : ℕ) → row_at l.self-inside.rows.items n ≡ row_at l.fn.self n) × (length l.self-inside.rows.items < 2 ^ 32)

abbrev pub decreases-loop-self : goal.decreases-loop-self
decreases-loop-self l = l.case - length l.self-inside.rows.items
