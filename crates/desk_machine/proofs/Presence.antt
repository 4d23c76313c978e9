-- A determination that is made on the desk's own list is issued on the list over the present airfields.
use Rattle.std.proofs.Common.{◌≡◌, refl, sym, ap, ◌∙◌, subst, ℕ, ◌+◌, Option, Some, None, Result, Ok, length, slice_get}
use Rattle.std.specs.Option.{option_map}
use Rattle.jiff_core.specs.declared.civil.date.Date.{Date}
use Rattle.determination_dates.specs.declared.determination.Record.{Record}
use Rattle.determination_dates.specs.declared.timely.Timeliness.{Timeliness}
use Rattle.airfields.specs.Sites.{Site}
use Rattle.determination_dates.specs.Computed.{timeliness_of, issued_record, revised_record, with_some}
use Rattle.case_requests.specs.declared.act.Act.{Act}
use Rattle.case_requests.specs.declared.act.Act.TheVariants as acts
use Rattle.case_requests.specs.declared.act.Impact.{Impact}
use Rattle.case_records.specs.declared.refusal.Refusal.{Refusal}
use Rattle.case_records.specs.declared.case.KeptCase.{KeptCase}
use Rattle.case_records.specs.declared.case.KeptList.{KeptList}
use Rattle.case_acts.specs.declared.effect.Effect.{Effect}
use Rattle.case_acts.specs.declared.effect.Step.TheVariants as steps
use Rattle.case_acts.specs.declared.extension.Extension.{Extension}
use Rattle.case_acts.specs.declared.revision.Revision.{Revision}
use Rattle.case_acts.specs.Rules.{determination_rules, revision_rules}
use Rattle.case_acts.specs.Rulings.{ruling}
use Rattle.case_acts.specs.Effects.{petition_effect, disposal_effect, extension_effect, license_effect, abandonment_effect, determination_effect, revision_effect, site_with, filing_effect, form_came}
use Rattle.case_acts.specs.Decisions.{decision_by, is_reviewable}
use Rattle.desk_machine.specs.States.{State, case_at}
use Rattle.desk_machine.specs.Evaluations.{Given, basis_of, own_list, site_of}
use Rattle.desk_machine.specs.Machine.{ruling_of_act, on_list, day_rules, file_rules}
use Rattle.desk_machine.specs.Marks.{IsPresent}
use Rattle.desk_machine.proofs.Going.{came, PutsLife, petition_puts, disposal_puts, extension_puts, license_puts, on_day_shown, on_case_shown, ok_same, some_same}

present_as : (s : State) (x e : Effect) → IsPresent s x.step → x ≡ e → IsPresent s e.step
present_as s x e g h = subst (λ (y : Effect). IsPresent s y.step) h g

present_mapped : (A : Type 0) (s : State) (o : Option A) (f : A → Effect) (e : Effect) → ((r : A) → IsPresent s (f r).step) → option_map f o ≡ Some e → IsPresent s e.step
present_mapped A s None f e g h = absurd (cc (h))
present_mapped A s (Some r) f e g h = present_as s (f r) e (g r) (some_same (f r) e h)

present_put : (s : State) (number : ℕ) (e : Effect) → PutsLife number e → IsPresent s e.step
present_put s number e p = subst (IsPresent s) (sym p.step) tt

present_issued : (s : State) (number : ℕ) (finding : Option Impact) (today : Date) (c : KeptCase) (kept : KeptList) (e : Effect) → kept ≡ own_list s c.submission.filing
    → ruling (determination_rules finding kept today c) (determination_effect number finding s.closed kept today c) ≡ Ok e → IsPresent s e.step
present_issued s number finding today c kept e own h =
    present_mapped Record s (issued_record today (decision_by finding) (is_reviewable (decision_by finding) c.submission.filing kept.list) s.closed) _ e
    (λ r. ap (λ (k : KeptList). k.list) own)
    (came (slice_get (determination_rules finding kept today c) 0) (determination_effect number finding s.closed kept today c) e h).some

through_record : (s : State) (o : Option Record) (f : Record → Option Effect) (e : Effect) → ((r : Record) → f r ≡ Some e → IsPresent s e.step) → with_some o f ≡ Some e → IsPresent s e.step
through_record s None f e g h = absurd (cc (h))
through_record s (Some r) f e g h = g r h

present_revised : (s : State) (number : ℕ) (x : Revision) (today : Date) (c : KeptCase) (kept : KeptList) (e : Effect) → kept ≡ own_list s (site_with x c)
    → ruling (revision_rules x kept today c) (revision_effect number x s.closed kept today c) ≡ Ok e → IsPresent s e.step
present_revised s number x today c kept e own h =
    through_record s c.life.determination _ e
    (λ r k. present_mapped Record s (revised_record today (decision_by x.finding) (is_reviewable (decision_by x.finding) (site_with x c) kept.list) s.closed r) _ e
    (λ q. ap (λ (l : KeptList). l.list) own) k)
    (came (slice_get (revision_rules x kept today c) 0) (revision_effect number x s.closed kept today c) e h).some

list_shown : (s : State) (of : KeptCase → Site) (o : Option KeptCase) (c : KeptCase) (act : KeptList → Result Effect Refusal) (e : Effect) (P : Type 0) → o ≡ Some c
    → ((kept : KeptList) → kept ≡ own_list s (of c) → act kept ≡ Ok e → P)
    → on_list (option_map (own_list s) (option_map of o)) act ≡ Ok e → P
list_shown s of None c act e P is f h = absurd (cc (is))
list_shown s of (Some d) c act e P is f h = f (own_list s (of d)) (ap (λ (x : KeptCase). own_list s (of x)) (let same : d ≡ c = cc (is) in same)) h

own_present : (s : State) (p : ℕ) (act : Act) (e : Effect) → ruling_of_act s (basis_of s p None act) act ≡ Ok e → IsPresent s e.step
own_present s p (acts.Amend a) e h = present_as s _ e tt (ok_same _ e h)
own_present s p (acts.Day d) e h = present_as s _ e tt (some_same _ e (came (slice_get (day_rules s.day d) 0) _ e h).some)
own_present s p (acts.Closed d) e h = present_as s _ e tt (ok_same _ e h)
own_present s p (acts.File n) e h =
    on_day_shown s.day _ e (IsPresent s e.step)
    (λ today day k. present_mapped Timeliness s (timeliness_of today n.start n.permit n.emergency) _ e (λ t. tt) (came (slice_get (file_rules s.cases) 0) (filing_effect (length s.cases + 1) today n) e k).some) h
own_present s p (acts.Form number) e h =
    on_case_shown s number _ e (IsPresent s e.step) (λ today c day at k. present_as s (form_came number today c) e tt (some_same _ e (came _ (Some (form_came number today c)) e k).some)) h
own_present s p (acts.Determine number finding) e h =
    on_case_shown s number _ e (IsPresent s e.step)
    (λ today c day at k. list_shown s site_of (case_at s.cases number) c _ e (IsPresent s e.step) at (λ kept own m. present_issued s number finding today c kept e own m) k) h
own_present s p (acts.Petition number party) e h =
    on_case_shown s number _ e (IsPresent s e.step) (λ today c day at k. present_put s number e (petition_puts number c e (came _ (petition_effect number c) e k).some)) h
own_present s p (acts.Dispose number affirm) e h =
    on_case_shown s number _ e (IsPresent s e.step) (λ today c day at k. present_put s number e (disposal_puts number affirm today c e (came _ (disposal_effect number affirm today c) e k).some)) h
own_present s p (acts.Extend number months started filing warranted) e h =
    on_case_shown s number _ e (IsPresent s e.step)
    (λ today c day at k.
    let x : Extension = record { months = months; started = started; filed = filing; warranted = warranted } in
    present_put s number e (extension_puts number x c e (came _ (extension_effect number x c) e k).some)) h
own_present s p (acts.Revise number started ground height finding) e h =
    let x : Revision = record { started = started; terrain = ground; height = height; finding = finding } in
    on_case_shown s number _ e (IsPresent s e.step)
    (λ today c day at k. list_shown s (site_with x) (case_at s.cases number) c _ e (IsPresent s e.step) at (λ kept own m. present_revised s number x today c kept e own m) k) h
own_present s p (acts.Fcc number completion) e h =
    on_case_shown s number _ e (IsPresent s e.step) (λ today c day at k. present_put s number e (license_puts number completion today c e (came _ (license_effect number completion today c) e k).some)) h
own_present s p (acts.Abandon number) e h =
    on_case_shown s number _ e (IsPresent s e.step) (λ today c day at k. present_as s (abandonment_effect number c) e tt (some_same _ e (came _ (Some (abandonment_effect number c)) e k).some)) h

-- also where a list was given and the act does not rest on it
pub acted_present : (s : State) (p : ℕ) (given : Option Given) (act : Act) (e : Effect) → basis_of s p given act ≡ basis_of s p None act
    → ruling_of_act s (basis_of s p given act) act ≡ Ok e → IsPresent s e.step
acted_present s p given act e own h = own_present s p act e (subst (λ (b : Option KeptList). ruling_of_act s b act ≡ Ok e) own h)
