use Rattle.std.proofs.Common.{◌≡◌, sym, ap, ◌∙◌, subst, Some}
use Rattle.case_acts.specs.declared.effect.Step.TheVariants as steps
use Rattle.desk_machine.specs.States.{State, state_after_step, with_entry}
use Rattle.filing_desk.proofs.MarksAfter.{AreKept, form_watched, kept_formed}
use Rattle.filing_desk.proofs.office.Office.put_form.Goals as goal

pub invariant_of-self-2 : goal.invariant_of-self-2
invariant_of-self-2 g c =
    let begun = with_entry c.args.accepted.entry c.self.inside.desk in
    let step = steps.FormPut c.args.number c.args.day in
    let at : c.put_form.new.self ≡ state_after_step step begun = c.put_form.ensures ∙ ap (state_after_step step) c.in_ok-keep.ensures.done in
    subst (λ (s : State). AreKept s c.self.inside.marks) (sym at) (kept_formed begun c.args.number (λ d. record d { form = Some c.args.day }) c.self.inside.marks (λ d. form_watched begun d (Some c.args.day)) c.self.invariant)
