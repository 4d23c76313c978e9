use Rattle.std.proofs.Common.{List, Option, sym, subst}
use Rattle.review_marks.specs.Books.{IsExact}
use Rattle.review_marks.specs.declared.row.Row.{Row}
use Rattle.review_marks.proofs.Exactness.{exact_close}
use Rattle.review_marks.proofs.book.MarkBook.close.Goals as goal

pub returns-clause-exact : goal.returns-clause-exact
returns-clause-exact c = λ airfields exact.
    subst (λ (rows : List (Option Row)). IsExact airfields rows) (sym c.clear_row.ensures) (exact_close airfields c.args.self.now c.args.case exact)
