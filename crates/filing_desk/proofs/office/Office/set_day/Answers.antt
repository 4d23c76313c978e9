use Rattle.std.proofs.Common.{◌≡◌, sym, ap, ◌∙◌, subst, cond, not, ℕ, None}
use Rattle.case_acts.specs.declared.effect.Step.TheVariants as steps
use Rattle.review_marks.specs.Books.{row_at}
use Rattle.desk_machine.specs.States.{State, state_after_step, with_entry}
use Rattle.desk_machine.specs.Marks.{Goes, stands_in}
use Rattle.filing_desk.proofs.MarksAfter.{AreKept, kept_on_day}
use Rattle.filing_desk.proofs.office.Office.set_day.Goals as goal

pub invariant_of-self-2 : goal.invariant_of-self-2
invariant_of-self-2 g c =
    let begun = with_entry c.args.accepted.entry c.self.inside.desk in
    let step = steps.DaySet c.args.day in
    let at : c.set_day.new.self ≡ state_after_step step begun = c.set_day.ensures ∙ ap (state_after_step step) c.in_ok-keep.ensures.done in
    let goes : Goes c.self.inside.desk step = subst (λ (s : State). Goes s step) (sym c.self.view_is) c.requires.goes in
    let closes = subst (λ (s : State). (n : ℕ) → row_at c.close_fallen.new.marks n ≡ cond (not (stands_in s n)) None (row_at c.self.inside.marks n)) at c.close_fallen.ensures in
    subst (λ (s : State). AreKept s c.close_fallen.new.marks) (sym at) (kept_on_day begun c.args.day c.self.inside.marks c.close_fallen.new.marks goes c.self.invariant closes)
