use Rattle.std.proofs.Common.{◌≡◌, sym, ap, ◌∙◌, subst, List, Option}
use Rattle.review_marks.specs.Books.{rows_after_commit, row_at}
use Rattle.review_marks.specs.declared.row.Row.{Row}
use Rattle.desk_machine.specs.States.{State, with_entry}
use Rattle.filing_desk.proofs.MarksAfter.{AreKept, kept_amended}
use Rattle.filing_desk.proofs.office.Office.amend.Goals as goal

pub invariant_of-self-2 : goal.invariant_of-self-2
invariant_of-self-2 g c =
    let rows = c.self.inside.marks in
    let made : c.commit.new.self ≡ rows_after_commit c.in-Ok.change rows = c.commit.ensures ∙ ap (rows_after_commit c.in-Ok.change) c.mark_change.ensures.same in
    subst (λ (s : State). AreKept s c.commit.new.self) (sym c.in_ok-put_sky.ensures.done)
    (kept_amended (with_entry c.args.accepted.entry c.self.inside.desk) _ _ rows c.commit.new.self c.in_ok-sky.ensures.leads c.self.invariant (λ n. ap (λ (new : List (Option Row)). row_at new n) made ∙ c.in-Ok.ensures.turned n))
