use Rattle.std.proofs.Common.{◌≤◌, ℕ, option_copied, subst, arith}
use Rattle.desk_machine.specs.States.{last_number}
use Rattle.desk_machine.specs.Machine.{decide}
use Rattle.filing_desk.specs.Clerks.{Advances, Clerking}
use Rattle.filing_desk.specs.Served.{HasCause}
use Rattle.filing_desk.proofs.Deciding.{advances, desk_on, opening_on, seen, within_on}
use Rattle.filing_desk.proofs.clerk.Clerk.apply_with.Goals as goal

pub invariant_of-self : goal.invariant_of-self
invariant_of-self g c =
    let base = c.self.inside.base in
    let upto : c.accepted-p.result ≤ last_number c.self.inside.office = omega (arith, c.accepted-p.ensures.value) in
    record {
      within = within_on _ _ base _ _ c.self.invariant.within c.apply-answer.ensures.answer;
      opening = opening_on _ _ base c.self.inside.keeper c.apply-answer.new.keeper _ _ _ _ c.self.invariant.within c.self.invariant.opening c.apply-answer.ensures.answer;
      desk = desk_on c.desk_goes_on.ensures _ _ _ _ _ _ c.has_record.ensures upto c.given_told.ensures c.self.invariant.desk c.apply-answer.ensures.answer c.accepted.ensures.few;
      told = c.apply-answer.ensures.serves.told c.self.invariant.told;
      loaded = c.apply-answer.ensures.serves.loaded;
    }

pub returns-clause-answer : goal.returns-clause-answer
returns-clause-answer g c =
    let base = c.self.inside.base in
    let s = c.self.inside.office in
    let q = c.args.c.now in
    let given = option_copied c.args.given in
    let l = seen c.apply-answer.new.self base c.apply-answer.new.keeper in
    let at = advances s c.apply-answer.new.self base c.self.inside.keeper c.apply-answer.new.keeper (decide s c.accepted-p.result q given) c.apply-answer.result c.self.invariant.within c.apply-answer.ensures.answer in
    subst (λ (k : Clerking _). Advances (decide k.state (last_number k.state) q given) k l c.apply-answer.result) c.self.view_is
    (subst (λ (p : ℕ). Advances (decide s p q given) (seen s base c.self.inside.keeper) l c.apply-answer.result) c.accepted-p.ensures.value at)

pub returns-clause-cause : goal.returns-clause-cause
returns-clause-cause g c =
    let s = c.self.inside.office in
    let q = c.args.c.now in
    let given = option_copied c.args.given in
    subst (λ (k : Clerking _). HasCause g.K.Keeper.IsSteady g.K.Keeper.faults (decide k.state (last_number k.state) q given) k.keeper c.apply-answer.new.keeper c.apply-answer.result) c.self.view_is
    (subst (λ (p : ℕ). HasCause g.K.Keeper.IsSteady g.K.Keeper.faults (decide s p q given) c.self.inside.keeper c.apply-answer.new.keeper c.apply-answer.result) c.accepted-p.ensures.value
    c.apply-answer.ensures.serves.cause)
