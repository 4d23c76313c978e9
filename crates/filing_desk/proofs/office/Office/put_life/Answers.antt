use Rattle.std.proofs.Common.{◌≡◌, sym, ap, ◌∙◌, subst, cond, List, Option}
use Rattle.case_acts.specs.declared.effect.Step.TheVariants as steps
use Rattle.review_marks.specs.Books.{rows_after_close}
use Rattle.review_marks.specs.declared.row.Row.{Row}
use Rattle.desk_machine.specs.States.{State, state_after_step, with_entry}
use Rattle.desk_machine.specs.Marks.{Goes, stands_in}
use Rattle.filing_desk.proofs.MarksAfter.{AreKept, kept_alive}
use Rattle.filing_desk.proofs.office.Office.put_life.Goals as goal

pub invariant_of-self-2 : goal.invariant_of-self-2
invariant_of-self-2 g c =
    let begun = with_entry c.args.accepted.entry c.self.inside.desk in
    let step = steps.LifePut c.args.number c.args.life in
    let rows = c.self.inside.marks in
    let at : c.put_life.new.self ≡ state_after_step step begun = c.put_life.ensures ∙ ap (state_after_step step) c.in_ok-keep.ensures.done in
    let goes : Goes c.self.inside.desk step = subst (λ (s : State). Goes s step) (sym c.self.view_is) c.requires.goes in
    let done = subst (λ (s : State). AreKept s (cond (stands_in s c.args.number) rows (rows_after_close c.args.number rows))) (sym at) (kept_alive begun c.args.number c.args.life rows goes c.self.invariant) in
    subst (λ (new : List (Option Row)). AreKept c.put_life.new.self new) (sym c.close_fallen_one.ensures) done
