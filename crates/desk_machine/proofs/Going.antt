-- What an act comes to goes with the state that it was decided in.
use Rattle.std.proofs.Common.{◌≡◌, ◌≢◌, refl, sym, ap, ◌∙◌, subst, ℕ, ◌+◌, Bool, true, false, not, cond, List, [], ◌∷◌, ◌++◌, length, Option, Some, None, IfSome, Result, Ok, Err, slice_get, int_lt, ◌≤ℤ◌, arith, ℤ}
use Rattle.std.specs.Option.{option_map}
use Rattle.std.proofs.lemmas.Grind.{common_steps}
use Rattle.jiff_core.specs.declared.civil.date.Date.{Date}
use Rattle.jiff_core.specs.Date.{epoch_day}
use Rattle.airfields.specs.declared.airfield.Airfield.{Airfield}
use Rattle.determination_dates.specs.declared.determination.Record.{Record}
use Rattle.determination_dates.specs.declared.life.End.TheVariants as ends
use Rattle.determination_dates.specs.declared.life.Life.{Life}
use Rattle.determination_dates.specs.declared.life.Status.{Status}
use Rattle.determination_dates.specs.declared.life.Status.TheVariants as statuses
use Rattle.determination_dates.specs.declared.timely.Timeliness.{Timeliness}
use Rattle.determination_dates.specs.Statuses.{status_of}
use Rattle.determination_dates.specs.Computed.{with_some, timeliness_of, issued_record, revised_record, expiry_date, last_date, affirmed_record, extended_record}
use Rattle.case_requests.specs.declared.act.Act.{Act}
use Rattle.case_requests.specs.declared.act.Act.TheVariants as acts
use Rattle.case_requests.specs.declared.act.Impact.{Impact}
use Rattle.case_requests.specs.declared.submission.Submission.{Submission}
use Rattle.case_records.specs.declared.refusal.Refusal.{Refusal}
use Rattle.case_records.specs.declared.refusal.Refusal.TheVariants as refusals
use Rattle.case_records.specs.declared.case.KeptCase.{KeptCase}
use Rattle.case_records.specs.declared.case.KeptList.{KeptList}
use Rattle.case_acts.specs.declared.effect.Effect.{Effect}
use Rattle.case_acts.specs.declared.effect.Step.{Step}
use Rattle.case_acts.specs.declared.effect.Step.TheVariants as steps
use Rattle.case_acts.specs.declared.extension.Extension.{Extension}
use Rattle.case_acts.specs.declared.revision.Revision.{Revision}
use Rattle.case_acts.specs.Standing.{is_standing, is_in_force}
use Rattle.case_acts.specs.Rules.{refusal_if, in_status, on_determination, of_record, review_rules, pending_rules, moving_rules, license_rules, determination_rules, revision_rules}
use Rattle.case_acts.specs.Rulings.{by_first, ruling}
use Rattle.case_acts.specs.Effects.{ended_life, petition_effect, disposal_effect, settlement_effect, extension_effect, moved, license_effect, abandonment_effect, determination_effect, issue_effect, revision_effect, revised_effect, site_with, filing_effect, form_came}
use Rattle.case_acts.specs.Decisions.{decision_by, is_reviewable}
use Rattle.desk_machine.specs.States.{State, case_at}
use Rattle.desk_machine.specs.Machine.{ruling_of_act, on_day, on_kept, on_list, day_rules, file_rules}
use Rattle.desk_machine.specs.Marks.{Goes, stands_on}

-- ---- what an effect shows

pub record Came (v : Option Refusal) (o : Option Effect) (e : Effect) : Type 0 where
  pub none : v ≡ None
  pub some : o ≡ Some e

pub came : (v : Option Refusal) (o : Option Effect) (e : Effect) → by_first v o ≡ Ok e → Came v o e
came (Some why) o e h = absurd (cc (h))
came None None e h = absurd (cc (h))
came None (Some x) e h = record { none = refl; some = (let s : x ≡ e = cc (h) in ap Some s) }

-- the act comes in the status of the case
comes : (b : Bool) (why : Refusal) (rest : List Refusal) → slice_get (refusal_if (not b) why ++ rest) 0 ≡ None → b ≡ true
comes true why rest h = refl
comes false why rest h = absurd (cc (h))

in_force_stands : (s : Status) → is_in_force s ≡ true → is_standing s ≡ true
in_force_stands statuses.Awaiting h = absurd (cc (h))
in_force_stands statuses.Pending h = absurd (cc (h))
in_force_stands statuses.InForce h = refl
in_force_stands statuses.HazardStands h = absurd (cc (h))
in_force_stands statuses.Expired h = absurd (cc (h))
in_force_stands statuses.Abandoned h = absurd (cc (h))
in_force_stands statuses.Reversed h = absurd (cc (h))

-- ---- the steps of acts

-- the effect gives the case of the number a life
pub record PutsLife (number : ℕ) (e : Effect) : Type 0 where
  pub life : Life
  pub step : e.step ≡ steps.LifePut number life

pub some_same : (x e : Effect) → Some x ≡ Some e → x ≡ e
some_same x e h = cc (h)

puts_same : (number : ℕ) (x e : Effect) → PutsLife number x → Some x ≡ Some e → PutsLife number e
puts_same number x e p h = subst (PutsLife number) (some_same x e h) p

puts_by : (A : Type 0) (number : ℕ) (d : Option A) (f : A → Option Effect) (e : Effect) → ((r : A) → f r ≡ Some e → PutsLife number e) → with_some d f ≡ Some e → PutsLife number e
puts_by A number None f e put h = absurd (cc (h))
puts_by A number (Some r) f e put h = put r h

puts_mapped : (A : Type 0) (number : ℕ) (o : Option A) (f : A → Effect) (e : Effect) → ((r : A) → PutsLife number (f r)) → option_map f o ≡ Some e → PutsLife number e
puts_mapped A number None f e put h = absurd (cc (h))
puts_mapped A number (Some r) f e put h = puts_same number (f r) e (put r) h

pub petition_puts : (number : ℕ) (c : KeptCase) (e : Effect) → petition_effect number c ≡ Some e → PutsLife number e
petition_puts number c e h = puts_by Record number c.life.determination _ e (λ r k. puts_same number _ e (record { life = _; step = refl }) k) h

settled_puts : (number : ℕ) (affirm : Bool) (today : Date) (c : KeptCase) (e : Effect) (r : Record) → settlement_effect number affirm today c r ≡ Some e → PutsLife number e
settled_puts number true today c e r h = puts_mapped Record number (affirmed_record today r) _ e (λ q. record { life = _; step = refl }) h
settled_puts number false today c e r h = puts_same number _ e (record { life = _; step = refl }) h

pub disposal_puts : (number : ℕ) (affirm : Bool) (today : Date) (c : KeptCase) (e : Effect) → disposal_effect number affirm today c ≡ Some e → PutsLife number e
disposal_puts number affirm today c e h = puts_by Record number c.life.determination _ e (settled_puts number affirm today c e) h

moved_puts : (number : ℕ) (c : KeptCase) (e : Effect) (r : Record) → moved number c r ≡ Some e → PutsLife number e
moved_puts number c e r h = puts_by Date number (expiry_date r) _ e (λ x k. puts_mapped Date number (last_date r) _ e (λ l. record { life = _; step = refl }) k) h

pub extension_puts : (number : ℕ) (x : Extension) (c : KeptCase) (e : Effect) → extension_effect number x c ≡ Some e → PutsLife number e
extension_puts number x c e h = puts_by Record number c.life.determination _ e (λ r k. puts_by Record number (extended_record x.months r) _ e (moved_puts number c e) k) h

pub license_puts : (number : ℕ) (completion : Option Date) (today : Date) (c : KeptCase) (e : Effect) → license_effect number completion today c ≡ Some e → PutsLife number e
license_puts number completion today c e h = puts_by Record number c.life.determination _ e (λ r k. puts_same number _ e (record { life = _; step = refl }) k) h

-- ---- of acts on a case

stays_out : (s : State) (number : ℕ) (life : Life) (today : Date) (there : KeptCase) → s.day ≡ Some today → case_at s.cases number ≡ Some there
    → is_standing (status_of there.life (epoch_day today)) ≡ true → Goes s (steps.LifePut number life)
stays_out s number life today there day at stands c is out =
    let same : there ≡ c = cc (at, is) in
    let on : stands_on s.day c ≡ true = ap (λ d. stands_on d c) day ∙ ap (λ (x : KeptCase). is_standing (status_of x.life (epoch_day today))) (sym same) ∙ stands in
    absurd (cc (on, out))

abandoned_out : (s : State) (number : ℕ) (there : KeptCase) (day : Option Date) → s.day ≡ day → Goes s (steps.LifePut number (ended_life there ends.Abandoned))
abandoned_out s number there None is c at out = rw is refl
abandoned_out s number there (Some today) is c at out = rw is refl

goes_by : (s : State) (number : ℕ) (e : Effect) → PutsLife number e → ((life : Life) → Goes s (steps.LifePut number life)) → Goes s e.step
goes_by s number e p h = subst (Goes s) (sym p.step) (h p.life)

-- an act on a determination that stands
standing_act : (s : State) (number : ℕ) (rest : List Refusal) (o : Option Effect) (b : Bool) (why : Refusal) (today : Date) (there : KeptCase) (e : Effect) → s.day ≡ Some today → case_at s.cases number ≡ Some there
    → (b ≡ true → is_standing (status_of there.life (epoch_day today)) ≡ true) → (o ≡ Some e → PutsLife number e) → ruling (refusal_if (not b) why ++ rest) o ≡ Ok e → Goes s e.step
standing_act s number rest o b why today there e day at stands puts h =
    let k = came (slice_get (refusal_if (not b) why ++ rest) 0) o e h in
    goes_by s number e (puts k.some) (λ life. stays_out s number life today there day at (stands (comes b why rest k.none)))

-- ---- each act

pub on_day_shown : (d : Option Date) (act : Date → Result Effect Refusal) (e : Effect) (P : Type 0) → ((today : Date) → d ≡ Some today → act today ≡ Ok e → P) → on_day d act ≡ Ok e → P
on_day_shown None act e P f h = absurd (cc (h))
on_day_shown (Some today) act e P f h = f today refl h

on_kept_shown : (o : Option KeptCase) (act : KeptCase → Result Effect Refusal) (e : Effect) (P : Type 0) → ((c : KeptCase) → o ≡ Some c → act c ≡ Ok e → P) → on_kept o act ≡ Ok e → P
on_kept_shown None act e P f h = absurd (cc (h))
on_kept_shown (Some c) act e P f h = f c refl h

pub on_case_shown : (s : State) (number : ℕ) (act : Date → KeptCase → Result Effect Refusal) (e : Effect) (P : Type 0) → ((today : Date) (c : KeptCase) → s.day ≡ Some today → case_at s.cases number ≡ Some c → act today c ≡ Ok e → P)
    → on_day s.day (λ today. on_kept (case_at s.cases number) (act today)) ≡ Ok e → P
on_case_shown s number act e P f h = on_day_shown s.day _ e P (λ today day k. on_kept_shown (case_at s.cases number) (act today) e P (λ c at m. f today c day at m) k) h

day_goes : (s : State) (kept : Option Date) (d : Date) (x e : Effect) → s.day ≡ kept → ruling (day_rules kept d) (Some x) ≡ Ok e → IfSome kept (λ k. epoch_day k ≤ℤ epoch_day d)
day_goes s None d x e is h = tt
day_goes s (Some kept) d x e is h = not_before (int_lt (epoch_day d) (epoch_day kept)) refl (came (slice_get (day_rules (Some kept) d) 0) (Some x) e h).none
  where
    not_before : (b : Bool) → int_lt (epoch_day d) (epoch_day kept) ≡ b → slice_get (refusal_if b (refusals.DayBack kept d)) 0 ≡ None → epoch_day kept ≤ℤ epoch_day d
    not_before true is none = absurd (cc (none))
    not_before false is none = grind (arith, common_steps, is)

abbrev come : Effect → Result Effect Refusal
come x = Ok x

pub ok_same : (x e : Effect) → come x ≡ come e → x ≡ e
ok_same x e h = cc (h)

goes_as : (s : State) (x e : Effect) → Goes s x.step → x ≡ e → Goes s e.step
goes_as s x e g h = subst (λ (y : Effect). Goes s y.step) h g

goes_mapped : (A : Type 0) (s : State) (o : Option A) (f : A → Effect) (e : Effect) → ((r : A) → Goes s (f r).step) → option_map f o ≡ Some e → Goes s e.step
goes_mapped A s None f e g h = absurd (cc (h))
goes_mapped A s (Some r) f e g h = goes_as s (f r) e (g r) (some_same (f r) e h)

day_there : (s : State) (today : Date) → s.day ≡ Some today → s.day ≢ None
day_there s today day none = cc (day, none)

file_goes : (s : State) (today : Date) (number : ℕ) (n : Submission) (e : Effect) → s.day ≡ Some today → ruling (file_rules s.cases) (filing_effect number today n) ≡ Ok e → Goes s e.step
file_goes s today number n e day h =
    goes_mapped Timeliness s (timeliness_of today n.start n.permit n.emergency) _ e (λ t. (refl, day_there s today day))
    (came (slice_get (file_rules s.cases) 0) (filing_effect number today n) e h).some

form_goes : (s : State) (number : ℕ) (today : Date) (c : KeptCase) (broken : List Refusal) (e : Effect) → ruling broken (Some (form_came number today c)) ≡ Ok e → Goes s e.step
form_goes s number today c broken e h = goes_as s (form_came number today c) e tt (some_same _ e (came (slice_get broken 0) (Some (form_came number today c)) e h).some)

abandon_goes : (s : State) (number : ℕ) (c : KeptCase) (broken : List Refusal) (e : Effect) → ruling broken (Some (abandonment_effect number c)) ≡ Ok e → Goes s e.step
abandon_goes s number c broken e h =
    goes_as s (abandonment_effect number c) e (abandoned_out s number c s.day refl) (some_same _ e (came (slice_get broken 0) (Some (abandonment_effect number c)) e h).some)

determination_goes : (s : State) (number : ℕ) (finding : Option Impact) (today : Date) (c : KeptCase) (kept : KeptList) (e : Effect)
    → ruling (determination_rules finding kept today c) (determination_effect number finding s.closed kept today c) ≡ Ok e → Goes s e.step
determination_goes s number finding today c kept e h =
    goes_mapped Record s (issued_record today (decision_by finding) (is_reviewable (decision_by finding) c.submission.filing kept.list) s.closed) _ e (λ r. tt)
    (came (slice_get (determination_rules finding kept today c) 0) (determination_effect number finding s.closed kept today c) e h).some

-- the record of a case, where an effect is of one
through_record : (s : State) (o : Option Record) (f : Record → Option Effect) (e : Effect) → ((r : Record) → f r ≡ Some e → Goes s e.step) → with_some o f ≡ Some e → Goes s e.step
through_record s None f e g h = absurd (cc (h))
through_record s (Some r) f e g h = g r h

revision_goes : (s : State) (number : ℕ) (x : Revision) (today : Date) (c : KeptCase) (kept : KeptList) (e : Effect)
    → ruling (revision_rules x kept today c) (revision_effect number x s.closed kept today c) ≡ Ok e → Goes s e.step
revision_goes s number x today c kept e h =
    through_record s c.life.determination _ e
    (λ r k. goes_mapped Record s (revised_record today (decision_by x.finding) (is_reviewable (decision_by x.finding) (site_with x c) kept.list) s.closed r) _ e (λ q. tt) k)
    (came (slice_get (revision_rules x kept today c) 0) (revision_effect number x s.closed kept today c) e h).some

pub on_list_shown : (o : Option KeptList) (act : KeptList → Result Effect Refusal) (e : Effect) (P : Type 0) → ((kept : KeptList) → o ≡ Some kept → act kept ≡ Ok e → P) → on_list o act ≡ Ok e → P
on_list_shown None act e P f h = absurd (cc (h))
on_list_shown (Some kept) act e P f h = f kept refl h

pub acted_goes : (s : State) (basis : Option KeptList) (act : Act) (e : Effect) → ruling_of_act s basis act ≡ Ok e → Goes s e.step
acted_goes s basis (acts.Amend a) e h = goes_as s _ e tt (ok_same _ e h)
acted_goes s basis (acts.Day d) e h =
    goes_as s _ e (day_goes s s.day d _ e refl h) (some_same _ e (came (slice_get (day_rules s.day d) 0) _ e h).some)
acted_goes s basis (acts.Closed d) e h = goes_as s _ e tt (ok_same _ e h)
acted_goes s basis (acts.File n) e h = on_day_shown s.day _ e (Goes s e.step) (λ today day k. file_goes s today (length s.cases + 1) n e day k) h
acted_goes s basis (acts.Form number) e h = on_case_shown s number _ e (Goes s e.step) (λ today c day at k. form_goes s number today c _ e k) h
acted_goes s basis (acts.Determine number finding) e h =
    on_case_shown s number _ e (Goes s e.step)
    (λ today c day at k. on_list_shown basis _ e (Goes s e.step) (λ kept on m. determination_goes s number finding today c kept e m) k) h
acted_goes s basis (acts.Petition number party) e h =
    on_case_shown s number _ e (Goes s e.step)
    (λ today c day at k. standing_act s number (of_record c.life.determination (review_rules today)) (petition_effect number c) (is_standing (status_of c.life (epoch_day today))) (refusals.NotStanding (status_of c.life (epoch_day today))) today c e day at (λ b. b) (petition_puts number c e) k) h
acted_goes s basis (acts.Dispose number affirm) e h =
    on_case_shown s number _ e (Goes s e.step)
    (λ today c day at k. standing_act s number (of_record c.life.determination pending_rules) (disposal_effect number affirm today c) (is_standing (status_of c.life (epoch_day today))) (refusals.NotStanding (status_of c.life (epoch_day today))) today c e day at (λ b. b) (disposal_puts number affirm today c e) k) h
acted_goes s basis (acts.Extend number months started filing warranted) e h =
    on_case_shown s number _ e (Goes s e.step)
    (λ today c day at k.
    let x : Extension = record { months = months; started = started; filed = filing; warranted = warranted } in
    standing_act s number (of_record c.life.determination (moving_rules x today c.submission.fcc)) (extension_effect number x c) (is_in_force (status_of c.life (epoch_day today))) (refusals.NotStanding (status_of c.life (epoch_day today))) today c e day at (in_force_stands (status_of c.life (epoch_day today))) (extension_puts number x c e) k) h
acted_goes s basis (acts.Revise number started ground height finding) e h =
    let x : Revision = record { started = started; terrain = ground; height = height; finding = finding } in
    on_case_shown s number _ e (Goes s e.step)
    (λ today c day at k. on_list_shown basis _ e (Goes s e.step) (λ kept on m. revision_goes s number x today c kept e m) k) h
acted_goes s basis (acts.Fcc number completion) e h =
    on_case_shown s number _ e (Goes s e.step)
    (λ today c day at k. standing_act s number (of_record c.life.determination (λ r. license_rules c)) (license_effect number completion today c) (is_in_force (status_of c.life (epoch_day today))) (refusals.NotStanding (status_of c.life (epoch_day today))) today c e day at (in_force_stands (status_of c.life (epoch_day today))) (license_puts number completion today c e) k) h
acted_goes s basis (acts.Abandon number) e h = on_case_shown s number _ e (Goes s e.step) (λ today c day at k. abandon_goes s number c _ e k) h
