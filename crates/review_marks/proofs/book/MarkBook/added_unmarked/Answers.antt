use Rattle.std.proofs.Common.{false, refl}
use Rattle.review_marks.proofs.Exactness.{exact_unmarked}
use Rattle.review_marks.proofs.book.MarkBook.added_unmarked.Goals as goal

pub returns-clause-exact : goal.returns-clause-exact
returns-clause-exact c =
    exact_unmarked c.change_to_add.result c.args.self.now c.change_to_add.new.self c.args.case (record { filing = c.args.filing.now; stored = c.args.stored.now; marked = false }) refl c.change_to_add.ensures.change c.change_to_add.ensures.same
