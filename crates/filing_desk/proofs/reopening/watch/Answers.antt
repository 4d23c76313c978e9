use Rattle.std.proofs.Common.{◌≡◌, sym, ap, ◌∙◌, subst, arith, Some, ◌+◌, ◌-◌, List, Option, slice_set}
use Rattle.review_marks.specs.Books.{rows_after_commit, rows_after_put}
use Rattle.review_marks.specs.declared.change.MarkChange.{MarkChange}
use Rattle.review_marks.specs.declared.row.Row.{Row}
use Rattle.desk_machine.specs.States.{State}
use Rattle.desk_machine.specs.Marks.{comparison_row}
use Rattle.filing_desk.specs.Marked.{AreMarksTo}
use Rattle.filing_desk.proofs.MarksAfter.{put_of}
use Rattle.filing_desk.proofs.MarksAnew.{marks_skipped, marks_put, listless_row, standing_row}
use Rattle.filing_desk.proofs.reopening.watch.Goals as goal

pub returns-in_default-list : goal.returns-in_default-list
returns-in_default-list g c =
    marks_skipped c.args.desk.now c.args.place c.args.marks.now (listless_row c.args.desk.now (c.args.place + 1) c.in-Some.case.now c.in-Some.ensures.value c.in_default-list.is) c.requires.before

pub returns : goal.returns
returns g c =
    let s = c.args.desk.now in
    let number = c.args.place + 1 in
    let there = c.in-Some.case.now in
    let kept = c.in-Some-list.kept in
    let rows = c.added.new.self in
    let row = standing_row s number there kept (sym c.if-not-stands.ensures) c.in-Some.ensures.value c.in-Some-list.is in
    let put = marks_put s c.args.place c.args.marks.now rows (comparison_row s there kept) row c.in_ok-change.ensures.room c.in_ok-change.ensures.same c.requires.before in
    let made : c.commit.new.self ≡ slice_set rows (number - 1) (Some (comparison_row s there kept)) =
    c.commit.ensures ∙ ap (λ (m : MarkChange). rows_after_commit m rows) c.in_ok-change.ensures.change
    ∙ ap (λ (t : State). rows_after_put number (comparison_row t there kept) rows) c.desk.view_is
    ∙ put_of rows (comparison_row s there kept) number (omega arith) in
    subst (λ (new : List (Option Row)). AreMarksTo s number new) (sym made) put
