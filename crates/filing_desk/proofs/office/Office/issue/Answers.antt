use Rattle.std.proofs.Common.{◌≡◌, sym, ap, ◌∙◌, subst, cond, ◌-◌, List, Option, Some, slice_set}
use Rattle.case_acts.specs.declared.effect.Step.TheVariants as steps
use Rattle.review_marks.specs.Books.{rows_after_close, rows_after_commit}
use Rattle.review_marks.specs.declared.change.MarkChange.{MarkChange}
use Rattle.review_marks.specs.declared.row.Row.{Row}
use Rattle.desk_machine.specs.States.{State, case_at, state_after_step, with_entry}
use Rattle.desk_machine.specs.Marks.{stands_in}
use Rattle.filing_desk.proofs.MarksAfter.{AreKept, issued_row, kept_issued, numbered, put_of}
use Rattle.filing_desk.proofs.office.Office.issue.Goals as goal

pub invariant_of-self-2 : goal.invariant_of-self-2
invariant_of-self-2 g c =
    let begun = with_entry c.args.accepted.entry c.self.inside.desk in
    let step = steps.Issued c.args.number c.args.filing.now c.args.life c.args.list in
    let there = c.in-Some.field-0.now in
    let rows = c.issued_mark.new.marks in
    let row : Row = issued_row c.self.inside.desk c.args.filing.now c.args.list in
    let put = slice_set rows (c.args.number - 1) (Some row) in
    let at : c.issue.new.self ≡ state_after_step step begun = c.issue.ensures ∙ ap (state_after_step step) c.in_ok-keep.ensures.done in
    let found : case_at c.self.inside.desk.cases c.args.number ≡ Some there = sym c.in-Some.ensures.value in
    let kept = kept_issued begun c.args.number c.args.filing.now c.args.life c.args.list there c.self.inside.marks rows found c.in-Ok.ensures.same c.in-Ok.ensures.room c.self.invariant in
    let done = subst (λ (s : State). AreKept s (cond (stands_in s c.args.number) put (rows_after_close c.args.number put))) (sym at) kept in
    let made : c.commit.new.self ≡ put = c.commit.ensures ∙ ap (λ (m : MarkChange). rows_after_commit m rows) c.in-Ok.ensures.change
    ∙ put_of rows row c.args.number (numbered c.self.inside.desk.cases c.args.number there found) in
    subst (λ (new : List (Option Row)). AreKept c.issue.new.self new)
    (sym (c.close_fallen_one.ensures ∙ ap (λ (rs : List (Option Row)). cond (stands_in c.issue.new.self c.args.number) rs (rows_after_close c.args.number rs)) made)) done

pub returns : goal.returns
returns g c =
    let begun = with_entry c.args.accepted.entry c.self.inside.desk in
    let step = steps.Issued c.args.number c.args.filing.now c.args.life c.args.list in
    let at : c.issue.new.self ≡ state_after_step step begun = c.issue.ensures ∙ ap (state_after_step step) c.in_ok-keep.ensures.done in
    let h = c.in_ok-keep.ensures.handed in
    record {
      done = subst (λ (s : State). c.issue.new.self ≡ with_entry c.args.accepted.entry (state_after_step step s)) c.self.view_is at;
      same = tt;
      refused = tt;
      handed = record { done = h.done; undone = tt; loaded = h.loaded; later = h.later; cause = tt };
    }
