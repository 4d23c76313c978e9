use Rattle.std.proofs.Common.{◌≡◌, refl, subst, arith, ◌<◌, ◌-◌, length, Some}
use Rattle.case_acts.specs.declared.effect.Step.TheVariants as steps
use Rattle.desk_machine.specs.States.{State, issued_case, state_after_step}
use Rattle.filing_desk.proofs.Sound.{life_sound, changed_case, most_set}
use Rattle.filing_desk.proofs.desk.Desk.issue.Goals as goal

pub invariant_of-self : goal.invariant_of-self
invariant_of-self c =
    let short : c.args.number - 1 < length c.self.inside.cases.items = omega (arith, c.if-place-len.false, c.len.ensures) in
    let after = issued_case c.args.filing.now c.args.life c.args.list c.index_mut-case.result.now in
    (life_sound c.self.inside.cases.items (c.args.number - 1) c.index_mut-case.result.now after short c.index_mut-case.ensures.value c.self.invariant.0 refl c.requires.kept, c.self.invariant.1, most_set c.self.inside.cases.items (c.args.number - 1) _ c.self.invariant.2)

pub returns : goal.returns
returns c =
    let short : c.args.number - 1 < length c.self.inside.cases.items = omega (arith, c.if-place-len.false, c.len.ensures) in
    let put = changed_case c.self.inside.cases.items c.args.number c.index_mut-case.result.now (issued_case c.args.filing.now c.args.life c.args.list) c.if-number-eq0.false short c.index_mut-case.ensures.value in
    let is : State → State → Type 0 = λ t s. t ≡ state_after_step (steps.Issued c.args.number c.args.filing.now c.args.life c.args.list) s in
    subst (is _) c.self.view_is (λ i. record { register = c.self.inside.sky; day = c.self.inside.today; closed = c.self.inside.closed; cases = put i; entries = c.self.inside.receipts })
