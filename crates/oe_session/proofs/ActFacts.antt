-- What an act comes to: the step changes the airfields as the act says, and the outcome records the list of the act's basis.
use Rattle.std.proofs.Common.{◌≡◌, refl, sym, ap, subst, ℕ, ◌+◌, Bool, true, false, cond, List, length, Option, Some, None, Result, Ok, Err, slice_get}
use Rattle.std.specs.Option.{option_map}
use Rattle.jiff_core.specs.declared.civil.date.Date.{Date}
use Rattle.airfields.specs.Sites.{Site}
use Rattle.airfields.specs.declared.airfield.Airfield.{Airfield}
use Rattle.determination_dates.specs.declared.determination.Record.{Record}
use Rattle.determination_dates.specs.Computed.{with_some, timeliness_of, affirmed_record, extended_record, revised_record, expiry_date, last_date}
use Rattle.wire_requests.specs.Changes.{Asked}
use Rattle.case_requests.specs.contracts.act.ActPartialEq.TheImpl as act
use Rattle.case_requests.specs.declared.act.Act.{Act}
use Rattle.case_requests.specs.declared.act.Act.TheVariants as acts
use Rattle.case_requests.specs.declared.act.Impact.{Impact}
use Rattle.case_records.specs.declared.refusal.Refusal.{Refusal}
use Rattle.case_records.specs.declared.refusal.Refusal.TheVariants as refusals
use Rattle.case_records.specs.declared.case.KeptList.{KeptList}
use Rattle.case_records.specs.declared.case.KeptCase.{KeptCase}
use Rattle.case_acts.specs.declared.effect.Effect.{Effect}
use Rattle.case_acts.specs.declared.effect.Step.{Step}
use Rattle.case_acts.specs.Effects.{issue_effect, revised_effect, revision_effect, site_with, settlement_effect, moved, form_came, abandonment_effect, filing_effect, determination_effect, petition_effect, disposal_effect, extension_effect, license_effect}
use Rattle.case_acts.specs.Rules.{form_rules, determination_rules, revision_rules, petition_rules, disposal_rules, extension_rules, fcc_rules, abandon_rules}
use Rattle.case_acts.specs.Rulings.{by_first}
use Rattle.case_acts.specs.declared.extension.Extension.{Extension}
use Rattle.case_acts.specs.declared.revision.Revision.{Revision}
use Rattle.desk_machine.specs.declared.entry.Entry.{Entry}
use Rattle.desk_machine.specs.States.{State, state_after_step, entry_of, case_at}
use Rattle.desk_machine.specs.Evaluations.{Given, evaluation_of, site_of, basis_of}
use Rattle.desk_machine.specs.Machine.{Kept, No, Done, entry, on_day, on_kept, on_list, ruling_of_act, register_effect, register_rule, ruling_on_act, decide_new, decide_by, decide, day_rules, file_rules}
use Rattle.desk_machine.specs.Fronts.{register_after_act}
use Rattle.oe_session.specs.World.{recorded_list}

-- ---- through what an effect is made of

by_rules : (P : Effect → Type 0) (why : Option Refusal) (o : Option Effect) (e : Effect) → ((x : Effect) → o ≡ Some x → P x) → by_first why o ≡ Ok e → P e
by_rules P (Some why) o e f h = absurd (cc (h))
by_rules P None None e f h = absurd (cc (h))
by_rules P None (Some x) e f h = let same : x ≡ e = cc (h) in subst P same (f x refl)

one : (P : Effect → Type 0) (x e : Effect) → P x → Some x ≡ Some e → P e
one P x e p h = let same : x ≡ e = cc (h) in subst P same p

abbrev ok : Effect → Result Effect Refusal
ok e = Ok e

come : (P : Effect → Type 0) (x e : Effect) → P x → ok x ≡ ok e → P e
come P x e p h = let same : x ≡ e = cc (h) in subst P same p

mapped : {A : Type 0} (P : Effect → Type 0) (o : Option A) (g : A → Effect) (e : Effect) → ((a : A) → P (g a)) → option_map g o ≡ Some e → P e
mapped P None g e f h = absurd (cc (h))
mapped P (Some a) g e f h = one P (g a) e (f a) h

through : {A : Type 0} (P : Effect → Type 0) (o : Option A) (g : A → Option Effect) (e : Effect) → ((a : A) → g a ≡ Some e → P e) → with_some o g ≡ Some e → P e
through P None g e f h = absurd (cc (h))
through P (Some a) g e f h = f a h

on_a_day : (P : Effect → Type 0) (d : Option Date) (f : Date → Result Effect Refusal) (e : Effect) → ((today : Date) → f today ≡ Ok e → P e) → on_day d f ≡ Ok e → P e
on_a_day P None f e k h = absurd (cc (h))
on_a_day P (Some today) f e k h = k today h

on_a_case : (P : Effect → Type 0) (o : Option KeptCase) (f : KeptCase → Result Effect Refusal) (e : Effect) → ((c : KeptCase) → f c ≡ Ok e → P e) → on_kept o f ≡ Ok e → P e
on_a_case P None f e k h = absurd (cc (h))
on_a_case P (Some c) f e k h = k c h

on_both : (P : Effect → Type 0) (s : State) (number : ℕ) (f : Date → KeptCase → Result Effect Refusal) (e : Effect) → ((today : Date) (c : KeptCase) → f today c ≡ Ok e → P e)
    → on_day s.day (λ today. on_kept (case_at s.cases number) (f today)) ≡ Ok e → P e
on_both P s number f e k h = on_a_day P s.day _ e (λ today m. on_a_case P (case_at s.cases number) (f today) e (λ c n. k today c n) m) h

-- ---- each act

pub record Does (a : Act) (basis : Option KeptList) (e : Effect) : Type 0 where
  pub register : (s : State) → (state_after_step e.step s).register ≡ register_after_act s.register a
  pub list : recorded_list e.outcome ≡ basis

simply : (a : Act) (e : Effect) → ((s : State) → (state_after_step e.step s).register ≡ register_after_act s.register a) → recorded_list e.outcome ≡ None → Does a None e
simply a e p q = record { register = p; list = q }

settles : (number : ℕ) (affirm : Bool) (today : Date) (c : KeptCase) (r : Record) (e : Effect) → settlement_effect number affirm today c r ≡ Some e → Does (acts.Dispose number affirm) None e
settles number true today c r e h = mapped (Does (acts.Dispose number true) None) (affirmed_record today r) _ e (λ q. simply _ _ (λ s. refl) refl) h
settles number false today c r e h = one (Does (acts.Dispose number false) None) _ e (simply _ _ (λ s. refl) refl) h

determines : (s : State) (number : ℕ) (finding : Option Impact) (e : Effect) (day : Option Date) (v : Option KeptCase) (over : Site → KeptList)
    → on_day day (λ today. on_kept v (λ c. on_list (option_map over (option_map site_of v)) (λ kept. by_first (slice_get (determination_rules finding kept today c) 0) (determination_effect number finding s.closed kept today c)))) ≡ Ok e
    → Does (acts.Determine number finding) (option_map over (option_map site_of v)) e
determines s number finding e None v over h = absurd (cc (h))
determines s number finding e (Some today) None over h = absurd (cc (h))
determines s number finding e (Some today) (Some c) over h =
    by_rules (Does (acts.Determine number finding) (Some (over (site_of c)))) (slice_get (determination_rules finding (over (site_of c)) today c) 0) _ e
    (λ x k. mapped (Does (acts.Determine number finding) (Some (over (site_of c)))) _ (issue_effect number c (over (site_of c))) x (λ r. record { register = λ s. refl; list = refl }) k) h

revises : (s : State) (a : Act) (number : ℕ) (x : Revision) (e : Effect) (day : Option Date) (v : Option KeptCase) (over : Site → KeptList)
    → ((r : List Airfield) → register_after_act r a ≡ r)
    → on_day day (λ today. on_kept v (λ c. on_list (option_map over (option_map (site_with x) v)) (λ kept. by_first (slice_get (revision_rules x kept today c) 0) (revision_effect number x s.closed kept today c)))) ≡ Ok e
    → Does a (option_map over (option_map (site_with x) v)) e
revises s a number x e None v over same h = absurd (cc (h))
revises s a number x e (Some today) None over same h = absurd (cc (h))
revises s a number x e (Some today) (Some c) over same h =
    let kept = over (site_with x c) in
    by_rules (Does a (Some kept)) (slice_get (revision_rules x kept today c) 0) _ e
    (λ y k. through (Does a (Some kept)) c.life.determination _ y
    (λ r m. mapped (Does a (Some kept)) _ (revised_effect number c (site_with x c) kept) y (λ q. record { register = λ s. sym (same s.register); list = refl }) m) k) h

pub does : (s : State) (p : ℕ) (given : Option Given) (a : Act) (e : Effect) → ruling_of_act s (basis_of s p given a) a ≡ Ok e → Does a (basis_of s p given a) e
does s p given (acts.Amend a) e h = come (Does (acts.Amend a) None) _ e (simply _ _ (λ s. refl) refl) h
does s p given (acts.Day d) e h = by_rules (Does (acts.Day d) None) (slice_get (day_rules s.day d) 0) _ e (λ x k. one (Does (acts.Day d) None) _ x (simply _ _ (λ s. refl) refl) k) h
does s p given (acts.Closed d) e h = come (Does (acts.Closed d) None) _ e (simply _ _ (λ s. refl) refl) h
does s p given (acts.File n) e h =
    on_a_day (Does (acts.File n) None) s.day _ e
    (λ today k. by_rules (Does (acts.File n) None) (slice_get (file_rules s.cases) 0) (filing_effect (length s.cases + 1) today n) e
    (λ x m. mapped (Does (acts.File n) None) (timeliness_of today n.start n.permit n.emergency) _ x (λ t. simply _ _ (λ s. refl) refl) m) k) h
does s p given (acts.Form number) e h =
    on_both (Does (acts.Form number) None) s number _ e
    (λ today c k. by_rules (Does (acts.Form number) None) (slice_get (form_rules c) 0) (Some (form_came number today c)) e (λ x m. one (Does (acts.Form number) None) _ x (simply _ _ (λ s. refl) refl) m) k) h
does s p given (acts.Determine number finding) e h = determines s number finding e s.day (case_at s.cases number) (evaluation_of s p given) h
does s p given (acts.Petition number party) e h =
    on_both (Does (acts.Petition number party) None) s number _ e
    (λ today c k. by_rules (Does (acts.Petition number party) None) (slice_get (petition_rules today c) 0) (petition_effect number c) e
    (λ x m. through (Does (acts.Petition number party) None) c.life.determination _ x (λ r n. one (Does (acts.Petition number party) None) _ x (simply _ _ (λ s. refl) refl) n) m) k) h
does s p given (acts.Dispose number affirm) e h =
    on_both (Does (acts.Dispose number affirm) None) s number _ e
    (λ today c k. by_rules (Does (acts.Dispose number affirm) None) (slice_get (disposal_rules today c) 0) (disposal_effect number affirm today c) e
    (λ x m. through (Does (acts.Dispose number affirm) None) c.life.determination _ x (λ r n. settles number affirm today c r x n) m) k) h
does s p given (acts.Extend number months started filing warranted) e h =
    let x : Extension = record { months = months; started = started; filed = filing; warranted = warranted } in
    let P : Effect → Type 0 = Does (acts.Extend number months started filing warranted) None in
    on_both P s number _ e
    (λ today c k. by_rules P (slice_get (extension_rules x today c) 0) (extension_effect number x c) e
    (λ y m. through P c.life.determination _ y (λ r n. through P (extended_record x.months r) (moved number c) y
    (λ q o. through P (expiry_date q) _ y (λ d t. mapped P (last_date q) _ y (λ l. simply _ _ (λ s. refl) refl) t) o) n) m) k) h
does s p given (acts.Revise number started ground height finding) e h =
    revises s (acts.Revise number started ground height finding) number (record { started = started; terrain = ground; height = height; finding = finding }) e s.day (case_at s.cases number)
    (evaluation_of s p given) (λ r. refl) h
does s p given (acts.Fcc number completion) e h =
    on_both (Does (acts.Fcc number completion) None) s number _ e
    (λ today c k. by_rules (Does (acts.Fcc number completion) None) (slice_get (fcc_rules today c) 0) (license_effect number completion today c) e
    (λ x m. through (Does (acts.Fcc number completion) None) c.life.determination _ x (λ r n. one (Does (acts.Fcc number completion) None) _ x (simply _ _ (λ s. refl) refl) n) m) k) h
does s p given (acts.Abandon number) e h =
    on_both (Does (acts.Abandon number) None) s number _ e
    (λ today c k. by_rules (Does (acts.Abandon number) None) (slice_get (abandon_rules today c) 0) (Some (abandonment_effect number c)) e (λ x m. one (Does (acts.Abandon number) None) _ x (simply _ _ (λ s. refl) refl) m) k) h

-- ---- a new entry

allowed : (P : Effect → Type 0) (register : List Airfield) (r : Result Effect Refusal) (e : Effect) → ((x : Effect) → r ≡ Ok x → P x) → register_effect register r ≡ Ok e → P e
allowed P register (Err why) e f h = absurd (cc (h))
allowed P register (Ok x) e f h = by_rules P (register_rule register x.step) (Some x) e (λ y k. one P x y (f x refl) k) h

-- what is so of a new entry and its step
pub record Makes (s : State) (p : ℕ) (q : Asked) (given : Option Given) (e : Entry) (step : Step) : Type 0 where
  pub change : e.change ≡ q
  pub register : (state_after_step step s).register ≡ register_after_act s.register q.act
  pub list : recorded_list e.outcome ≡ basis_of s p given q.act

not_done : (b : Bool) (d e : Entry) (step : Step) → cond b (Kept d) (No (refusals.KeyReused d.number)) ≡ Done e step → ⊥
not_done true d e step is = cc (is)
not_done false d e step is = cc (is)

made_new : (s : State) (p : ℕ) (q : Asked) (given : Option Given) (e : Entry) (step : Step) (r : Result Effect Refusal) → ((x : Effect) → r ≡ Ok x → Does q.act (basis_of s p given q.act) x)
    → decide_new s q r ≡ Done e step → Makes s p q given e step
made_new s p q given e step (Err why) f is = absurd (cc (is))
made_new s p q given e step (Ok x) f is =
    let same : entry s q x.outcome ≡ e = cc (is) in
    let goes : x.step ≡ step = cc (is) in
    let d = f x refl in
    record {
      change = sym (ap (λ (y : Entry). y.change) same);
      register = subst (λ (t : Step). (state_after_step t s).register ≡ register_after_act s.register q.act) goes (d.register s);
      list = subst (λ (y : Entry). recorded_list y.outcome ≡ basis_of s p given q.act) same d.list;
    }

made_by : (s : State) (p : ℕ) (q : Asked) (given : Option Given) (e : Entry) (step : Step) (v : Option Entry) → decide_by v s q (basis_of s p given q.act) ≡ Done e step → Makes s p q given e step
made_by s p q given e step (Some d) is = absurd (not_done (act.ghosts.eq d.change.act q.act) d e step is)
made_by s p q given e step None is =
    made_new s p q given e step (ruling_on_act s (basis_of s p given q.act) q.act)
    (λ x k. allowed (Does q.act (basis_of s p given q.act)) s.register (ruling_of_act s (basis_of s p given q.act) q.act) x (λ y m. does s p given q.act y m) k) is

pub makes : (s : State) (p : ℕ) (q : Asked) (given : Option Given) (e : Entry) (step : Step) → decide s p q given ≡ Done e step → Makes s p q given e step
makes s p q given e step is = made_by s p q given e step (entry_of q.caller q.key s.entries) is
