use Rattle.std.proofs.Common.{◌≡◌, subst, arith, ◌<◌, ◌-◌, length, List, Option}
use Rattle.review_marks.specs.Books.{with_mark}
use Rattle.review_marks.specs.declared.row.Row.{Row}
use Rattle.review_marks.proofs.Turning.{put_mark}
use Rattle.review_marks.proofs.book.MarkBook.put.Goals as goal

pub returns : goal.returns
returns c =
    let short : c.args.mark.case - 1 < length c.self.inside.rows.items = omega (arith, c.if-place-len.false, c.len.ensures) in
    let put = put_mark c.args.mark c.self.inside.rows.items c.index_mut.result.now c.set_mark.new.row c.if-mark-eq0.false short c.index_mut.ensures.value c.set_mark.ensures in
    let is : List (Option Row) → List (Option Row) → Type 0 = λ t s. t ≡ with_mark c.args.mark s in
    subst (is _) c.self.view_is put
