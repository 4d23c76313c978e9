-- Where an act files a case, the desk has room for it.
use Rattle.std.proofs.Common.{◌≡◌, ◌+◌, refl, subst, sym, arith, ℕ, ◌<◌, nat_le, Bool, true, false, List, length, Option, Some, None, Result, Ok, slice_get}
use Rattle.std.specs.Option.{option_map}
use Rattle.std.proofs.lemmas.Grind.{common_steps}
use Rattle.determination_dates.specs.declared.determination.Record.{Record}
use Rattle.determination_dates.specs.Computed.{issued_record, revised_record, with_some}
use Rattle.case_requests.specs.declared.act.Act.{Act}
use Rattle.case_requests.specs.declared.act.Act.TheVariants as acts
use Rattle.case_records.specs.declared.case.KeptCase.{KeptCase}
use Rattle.case_records.specs.declared.case.KeptList.{KeptList}
use Rattle.case_records.specs.declared.refusal.Refusal.{Refusal}
use Rattle.case_records.specs.declared.refusal.Refusal.TheVariants as refusals
use Rattle.case_acts.specs.declared.effect.Effect.{Effect}
use Rattle.case_acts.specs.declared.effect.Step.{Step}
use Rattle.case_acts.specs.declared.effect.Step.TheVariants as steps
use Rattle.case_acts.specs.declared.extension.Extension.{Extension}
use Rattle.case_acts.specs.declared.revision.Revision.{Revision}
use Rattle.case_acts.specs.Rules.{refusal_if}
use Rattle.case_acts.specs.Effects.{petition_effect, disposal_effect, extension_effect, license_effect, abandonment_effect, determination_effect, revision_effect, site_with, filing_effect, form_came}
use Rattle.case_acts.specs.Decisions.{decision_by, is_reviewable}
use Rattle.desk_machine.specs.declared.entry.TheConstants.{MOST_CASES}
use Rattle.desk_machine.specs.States.{State}
use Rattle.desk_machine.specs.Machine.{ruling_of_act, on_list, day_rules, file_rules}
use Rattle.desk_machine.proofs.Going.{came, PutsLife, petition_puts, disposal_puts, extension_puts, license_puts, on_day_shown, on_case_shown, ok_same, some_same}
use Rattle.desk_tables.specs.Changes.{HasRoom}

room_for_any : (cases : List KeptCase) (step : Step) → length cases < MOST_CASES → HasRoom cases step
room_for_any cases (steps.Amended a) h = tt
room_for_any cases (steps.DaySet d) h = tt
room_for_any cases (steps.DayClosed d) h = tt
room_for_any cases (steps.CaseFiled c) h = h
room_for_any cases (steps.FormPut number day) h = tt
room_for_any cases (steps.LifePut number life) h = tt
room_for_any cases (steps.Issued number site life list) h = tt

room_as : (cases : List KeptCase) (x e : Effect) → HasRoom cases x.step → x ≡ e → HasRoom cases e.step
room_as cases x e h is = subst (λ (y : Effect). HasRoom cases y.step) is h

room_mapped : (A : Type 0) (cases : List KeptCase) (o : Option A) (f : A → Effect) (e : Effect) → ((r : A) → HasRoom cases (f r).step) → option_map f o ≡ Some e → HasRoom cases e.step
room_mapped A cases None f e g h = absurd (cc (h))
room_mapped A cases (Some r) f e g h = room_as cases (f r) e (g r) (some_same (f r) e h)

room_put : (cases : List KeptCase) (number : ℕ) (e : Effect) → PutsLife number e → HasRoom cases e.step
room_put cases number e p = subst (HasRoom cases) (sym p.step) tt

not_full : (cases : List KeptCase) (b : Bool) → nat_le MOST_CASES (length cases) ≡ b → slice_get (refusal_if b refusals.CasesFull) 0 ≡ None → length cases < MOST_CASES
not_full cases true is none = absurd (cc (none))
not_full cases false is none = grind (arith, common_steps, is)

on_list_shown : (o : Option KeptList) (act : KeptList → Result Effect Refusal) (e : Effect) (P : Type 0) → ((kept : KeptList) → act kept ≡ Ok e → P) → on_list o act ≡ Ok e → P
on_list_shown None act e P f h = absurd (cc (h))
on_list_shown (Some kept) act e P f h = f kept h

room_of_record : (cases : List KeptCase) (o : Option Record) (f : Record → Option Effect) (e : Effect) → ((r : Record) → f r ≡ Some e → HasRoom cases e.step) → with_some o f ≡ Some e → HasRoom cases e.step
room_of_record cases None f e g h = absurd (cc (h))
room_of_record cases (Some r) f e g h = g r h

pub acted_room : (s : State) (basis : Option KeptList) (act : Act) (e : Effect) → ruling_of_act s basis act ≡ Ok e → HasRoom s.cases e.step
acted_room s basis (acts.Amend a) e h = room_as s.cases _ e tt (ok_same _ e h)
acted_room s basis (acts.Day d) e h = room_as s.cases _ e tt (some_same _ e (came (slice_get (day_rules s.day d) 0) _ e h).some)
acted_room s basis (acts.Closed d) e h = room_as s.cases _ e tt (ok_same _ e h)
acted_room s basis (acts.File n) e h =
    on_day_shown s.day _ e (HasRoom s.cases e.step)
    (λ today day k. room_for_any s.cases e.step (not_full s.cases (nat_le MOST_CASES (length s.cases)) refl (came (slice_get (file_rules s.cases) 0) (filing_effect (length s.cases + 1) today n) e k).none)) h
acted_room s basis (acts.Form number) e h =
    on_case_shown s number _ e (HasRoom s.cases e.step) (λ today c day at k. room_as s.cases (form_came number today c) e tt (some_same _ e (came _ (Some (form_came number today c)) e k).some)) h
acted_room s basis (acts.Determine number finding) e h =
    on_case_shown s number _ e (HasRoom s.cases e.step)
    (λ today c day at k. on_list_shown basis _ e (HasRoom s.cases e.step)
    (λ kept m. room_mapped Record s.cases (issued_record today (decision_by finding) (is_reviewable (decision_by finding) c.submission.filing kept.list) s.closed) _ e (λ r. tt)
    (came _ (determination_effect number finding s.closed kept today c) e m).some) k) h
acted_room s basis (acts.Petition number party) e h =
    on_case_shown s number _ e (HasRoom s.cases e.step) (λ today c day at k. room_put s.cases number e (petition_puts number c e (came _ (petition_effect number c) e k).some)) h
acted_room s basis (acts.Dispose number affirm) e h =
    on_case_shown s number _ e (HasRoom s.cases e.step) (λ today c day at k. room_put s.cases number e (disposal_puts number affirm today c e (came _ (disposal_effect number affirm today c) e k).some)) h
acted_room s basis (acts.Extend number months started filing warranted) e h =
    on_case_shown s number _ e (HasRoom s.cases e.step)
    (λ today c day at k.
    let x : Extension = record { months = months; started = started; filed = filing; warranted = warranted } in
    room_put s.cases number e (extension_puts number x c e (came _ (extension_effect number x c) e k).some)) h
acted_room s basis (acts.Revise number started ground height finding) e h =
    let x : Revision = record { started = started; terrain = ground; height = height; finding = finding } in
    on_case_shown s number _ e (HasRoom s.cases e.step)
    (λ today c day at k. on_list_shown basis _ e (HasRoom s.cases e.step)
    (λ kept m. room_of_record s.cases c.life.determination _ e
    (λ r n. room_mapped Record s.cases (revised_record today (decision_by finding) (is_reviewable (decision_by finding) (site_with x c) kept.list) s.closed r) _ e (λ q. tt) n)
    (came _ (revision_effect number x s.closed kept today c) e m).some) k) h
acted_room s basis (acts.Fcc number completion) e h =
    on_case_shown s number _ e (HasRoom s.cases e.step) (λ today c day at k. room_put s.cases number e (license_puts number completion today c e (came _ (license_effect number completion today c) e k).some)) h
acted_room s basis (acts.Abandon number) e h =
    on_case_shown s number _ e (HasRoom s.cases e.step) (λ today c day at k. room_as s.cases (abandonment_effect number c) e tt (some_same _ e (came _ (Some (abandonment_effect number c)) e k).some)) h
