use Rattle.std.proofs.Common.{◌≡◌, subst, false}
use Rattle.airfields.specs.Sites.{IsSite}
use Rattle.review_marks.specs.Shares.{concerns}
use Rattle.review_marks.specs.declared.row.Row.{Row}
use Rattle.review_marks.proofs.book.MarkBook.is_reached.Goals as goal

pub returns-in-Some-clause-far : goal.returns-in-Some-clause-far
returns-in-Some-clause-far c = λ no r at. (let same : c.in-Some.row.now ≡ r = cc (c.in-Some.ensures, at) in subst (λ (q : Row). concerns c.args.change.now q.filing ≡ false) same (c.reaches.ensures.far no))

pub returns-in-Some-clause-site : goal.returns-in-Some-clause-site
returns-in-Some-clause-site c = λ r at. (let same : c.in-Some.row.now ≡ r = cc (c.in-Some.ensures, at) in subst (λ (q : Row). IsSite q.filing) same c.reaches.ensures.site)
