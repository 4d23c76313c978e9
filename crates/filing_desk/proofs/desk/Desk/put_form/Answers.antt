use Rattle.std.proofs.Common.{◌≡◌, subst, arith, ◌<◌, ◌-◌, length, Some}
use Rattle.case_acts.specs.declared.effect.Step.TheVariants as steps
use Rattle.desk_machine.specs.States.{State, state_after_step}
use Rattle.filing_desk.proofs.Sound.{form_sound, changed_case, most_set}
use Rattle.filing_desk.proofs.desk.Desk.put_form.Goals as goal

pub invariant_of-self : goal.invariant_of-self
invariant_of-self c =
    let short : c.args.number - 1 < length c.self.inside.cases.items = omega (arith, c.if-place-len.false, c.len.ensures) in
    (form_sound c.self.inside.cases.items (c.args.number - 1) c.index_mut.result.now (Some c.args.day) short c.index_mut.ensures.value c.self.invariant.0, c.self.invariant.1, most_set c.self.inside.cases.items (c.args.number - 1) _ c.self.invariant.2)

pub returns : goal.returns
returns c =
    let short : c.args.number - 1 < length c.self.inside.cases.items = omega (arith, c.if-place-len.false, c.len.ensures) in
    let put = changed_case c.self.inside.cases.items c.args.number c.index_mut.result.now (λ d. record d { form = Some c.args.day }) c.if-number-eq0.false short c.index_mut.ensures.value in
    let is : State → State → Type 0 = λ t s. t ≡ state_after_step (steps.FormPut c.args.number c.args.day) s in
    subst (is _) c.self.view_is (λ i. record { register = c.self.inside.sky; day = c.self.inside.today; closed = c.self.inside.closed; cases = put i; entries = c.self.inside.receipts })
