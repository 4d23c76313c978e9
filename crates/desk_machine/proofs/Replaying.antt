-- A replay goes on by one entry.
use Rattle.std.specs.Cmp.Lexicographic.{pointwise}
use Rattle.std.proofs.Common.{◌≡◌, refl, nat_eq, sym, ap, ◌∙◌, subst, arith, ℕ, Bool, true, false, nat_le, ◌&&◌, cond, List, [], ◌∷◌, ◌++◌, Option, Some, None, Result, Ok, Err}
use Rattle.std.proofs.lemmas.Grind.{common_steps}
use Rattle.std.specs.Option.{option_map}
use Rattle.jiff_core.specs.declared.civil.date.Date.{Date}
use Rattle.airfields.specs.Sites.{Site}
use Rattle.airfields.specs.declared.airfield.Airfield.{Airfield}
use Rattle.airfields.specs.contracts.structure.FilingEq.TheImpl.Laws as filing_laws
use Rattle.determination_dates.specs.declared.determination.Record.{Record}
use Rattle.determination_dates.specs.Computed.{with_some}
use Rattle.wire_requests.specs.Changes.{Asked}
use Rattle.case_requests.specs.contracts.act.ActPartialEq.TheImpl as act
use Rattle.case_requests.specs.contracts.act.ActEq.TheImpl.Laws as act_laws
use Rattle.case_requests.specs.declared.act.Act.{Act}
use Rattle.case_requests.specs.declared.act.Act.TheVariants as acts
use Rattle.case_requests.specs.declared.act.Impact.{Impact}
use Rattle.case_records.specs.declared.refusal.Refusal.{Refusal}
use Rattle.case_records.specs.declared.refusal.Refusal.TheVariants as refusals
use Rattle.case_records.specs.declared.case.KeptList.{KeptList}
use Rattle.case_records.specs.declared.case.KeptCase.{KeptCase}
use Rattle.case_acts.specs.declared.effect.Effect.{Effect}
use Rattle.case_acts.specs.declared.effect.Step.{Step}
use Rattle.case_acts.specs.declared.effect.Step.TheVariants as steps
use Rattle.case_acts.specs.declared.revision.Revision.{Revision}
use Rattle.case_acts.specs.Effects.{issue_effect, revised_effect, revision_effect, site_with}
use Rattle.case_acts.specs.Rulings.{by_first, determination_ruling, revision_ruling}
use Rattle.desk_machine.specs.declared.entry.Entry.{Entry}
use Rattle.desk_machine.specs.States.{State, state_after_step, with_entry, entry_of, case_at}
use Rattle.desk_machine.specs.Evaluations.{Given, same_site, own_list, evaluation_of, evaluated_site, site_of, basis_of}
use Rattle.desk_machine.specs.Machine.{Answer, Kept, No, Done, entry, on_day, on_kept, on_list, ruling_of_act, register_effect, register_rule, ruling_on_act, decide_new, decide_by, decide, state_after, version_of, list_given, given_of, decide_again, replay, entries_of_answer}

replay-append : (s : State) (es : List Entry) (e : Entry) → replay s (es ++ e ∷ []) ≡ state_after (replay s es) (decide_again (replay s es) e)
replay-append s [] e = refl
replay-append s (d ∷ es) e = replay-append (state_after s (decide_again s d)) es e

-- ---- a determination is made again on the list that it records

same_self : (site : Site) → same_site site site ≡ true
same_self site = filing_laws.laws-law.refl site

-- a list that is given for the same structure, with its own number, is taken
taken : (s : State) (site : Site) (kept : KeptList) → evaluation_of s kept.last (Some (record { filing = site; last = kept.last; list = kept.list })) site ≡ kept
taken s site kept =
    let most : nat_le kept.last kept.last ≡ true = grind (arith, common_steps) in
    rw (same_self site, most) refl

-- what is told of a determination records the list that it was made on
abbrev Records : KeptList → Site → Effect → Type 0
Records kept site f = (version_of f.outcome ≡ kept.last) × (list_given f.outcome site ≡ Some (record { filing = site; last = kept.last; list = kept.list }))

records : (number : ℕ) (c : KeptCase) (kept : KeptList) (f : Effect) (why : Option Refusal) (r : Option Record) → by_first why (option_map (issue_effect number c kept) r) ≡ Ok f → Records kept (site_of c) f
records number c kept f (Some why) r is = absurd (cc (is))
records number c kept f None None is = absurd (cc (is))
records number c kept f None (Some r) is =
    let same : issue_effect number c kept r ≡ f = cc (is) in
    subst (Records kept (site_of c)) same (refl, refl)

abbrev on_basis : ℕ → Option Impact → State → Option Date → Option KeptCase → Option KeptList → Result Effect Refusal
on_basis number finding s day v basis = on_day day (λ today. on_kept v (λ c. on_list basis (λ kept. determination_ruling number finding s.closed kept today c)))

determined_again : (s : State) (p : ℕ) (given : Option Given) (number : ℕ) (finding : Option Impact) (f : Effect) (day : Option Date) (v : Option KeptCase)
    → on_basis number finding s day v (option_map (evaluation_of s p given) (option_map site_of v)) ≡ Ok f
    → option_map (evaluation_of s (version_of f.outcome) (with_some (option_map site_of v) (list_given f.outcome))) (option_map site_of v) ≡ option_map (evaluation_of s p given) (option_map site_of v)
determined_again s p given number finding f None v is = absurd (cc (is))
determined_again s p given number finding f (Some today) None is = refl
determined_again s p given number finding f (Some today) (Some c) is =
    let kept = evaluation_of s p given (site_of c) in
    let told : Records kept (site_of c) f = records number c kept f _ _ is in
    ap Some (rw (told.0, told.1) (taken s (site_of c) kept))

-- and so for a revision

revision_records : (number : ℕ) (c : KeptCase) (site : Site) (kept : KeptList) (f : Effect) (r : Option Record) → option_map (revised_effect number c site kept) r ≡ Some f → Records kept site f
revision_records number c site kept f None is = absurd (cc (is))
revision_records number c site kept f (Some r) is =
    let same : revised_effect number c site kept r ≡ f = cc (is) in
    subst (Records kept site) same (refl, refl)

record_records : (number : ℕ) (c : KeptCase) (site : Site) (kept : KeptList) (f : Effect) (why : Option Refusal) (o : Option Record) (g : Record → Option Record)
    → by_first why (with_some o (λ r. option_map (revised_effect number c site kept) (g r))) ≡ Ok f → Records kept site f
record_records number c site kept f (Some why) o g is = absurd (cc (is))
record_records number c site kept f None None g is = absurd (cc (is))
record_records number c site kept f None (Some r) g is = revision_records number c site kept f (g r) (by_effect (option_map (revised_effect number c site kept) (g r)) is)
  where
    by_effect : (o : Option Effect) → by_first None o ≡ Ok f → o ≡ Some f
    by_effect None e = absurd (cc (e))
    by_effect (Some x) e = let same : x ≡ f = cc (e) in ap Some same

abbrev revised_on : ℕ → Revision → State → Option Date → Option KeptCase → Option KeptList → Result Effect Refusal
revised_on number x s day v basis = on_day day (λ today. on_kept v (λ c. on_list basis (λ kept. revision_ruling number x s.closed kept today c)))

revised_again : (s : State) (p : ℕ) (given : Option Given) (number : ℕ) (x : Revision) (f : Effect) (day : Option Date) (v : Option KeptCase)
    → revised_on number x s day v (option_map (evaluation_of s p given) (option_map (site_with x) v)) ≡ Ok f
    → option_map (evaluation_of s (version_of f.outcome) (with_some (option_map (site_with x) v) (list_given f.outcome))) (option_map (site_with x) v) ≡ option_map (evaluation_of s p given) (option_map (site_with x) v)
revised_again s p given number x f None v is = absurd (cc (is))
revised_again s p given number x f (Some today) None is = refl
revised_again s p given number x f (Some today) (Some c) is =
    let kept = evaluation_of s p given (site_with x c) in
    let told : Records kept (site_with x c) f = record_records number c (site_with x c) kept f _ c.life.determination _ is in
    ap Some (rw (told.0, told.1) (taken s (site_with x c) kept))

-- so each act has the same basis again
basis_again : (s : State) (p : ℕ) (given : Option Given) (a : Act) (f : Effect) → ruling_of_act s (basis_of s p given a) a ≡ Ok f
    → basis_of s (version_of f.outcome) (with_some (evaluated_site s a) (list_given f.outcome)) a ≡ basis_of s p given a
basis_again s p given (acts.Amend amendment) f is = refl
basis_again s p given (acts.Day d) f is = refl
basis_again s p given (acts.Closed d) f is = refl
basis_again s p given (acts.File n) f is = refl
basis_again s p given (acts.Form number) f is = refl
basis_again s p given (acts.Determine number finding) f is = determined_again s p given number finding f s.day (case_at s.cases number) is
basis_again s p given (acts.Petition number party) f is = refl
basis_again s p given (acts.Dispose number affirm) f is = refl
basis_again s p given (acts.Extend number months started filed warranted) f is = refl
basis_again s p given (acts.Revise number started ground height finding) f is =
    revised_again s p given number (record { started = started; terrain = ground; height = height; finding = finding }) f s.day (case_at s.cases number) is
basis_again s p given (acts.Fcc number completion) f is = refl
basis_again s p given (acts.Abandon number) f is = refl

-- ---- a new entry is made again

allowed_by : (e f : Effect) (why : Option Refusal) → by_first why (Some e) ≡ Ok f → e ≡ f
allowed_by e f (Some why) is = absurd (cc (is))
allowed_by e f None is = cc (is)

-- an effect that the rules of the register leave is that of the act
allowed : (register : List Airfield) (r : Result Effect Refusal) (f : Effect) → register_effect register r ≡ Ok f → r ≡ Ok f
allowed register (Err why) f is = absurd (cc (is))
allowed register (Ok e) f is = ap Ok (allowed_by e f (register_rule register e.step) is)

new_again : (s : State) (p : ℕ) (q : Asked) (given : Option Given) (e : Entry) (step : Step) (r : Result Effect Refusal)
    → ruling_on_act s (basis_of s p given q.act) q.act ≡ r → entry_of q.caller q.key s.entries ≡ None → decide_new s q r ≡ Done e step → decide_again s e ≡ Done e step
new_again s p q given e step (Err why) rules new is = absurd (cc (is))
new_again s p q given e step (Ok f) rules new is =
    let same : entry s q f.outcome ≡ e = cc (is) in
    let does : f.step ≡ step = cc (is) in
    let again : decide_again s (entry s q f.outcome) ≡ Done (entry s q f.outcome) f.step =
    ap (λ v. decide_by v s q (basis_of s (version_of f.outcome) (given_of s (entry s q f.outcome)) q.act)) new
    ∙ ap (decide_by None s q) (basis_again s p given q.act f (allowed s.register (ruling_of_act s (basis_of s p given q.act) q.act) f rules))
    ∙ ap (decide_new s q) rules in
    subst (λ d. decide_again s d ≡ Done d f.step) same again ∙ ap (Done e) does

not_done : (b : Bool) (d e : Entry) (step : Step) → cond b (Kept d) (No (refusals.KeyReused d.number)) ≡ Done e step → ⊥
not_done true d e step is = cc (is)
not_done false d e step is = cc (is)

known_again : (s : State) (p : ℕ) (q : Asked) (given : Option Given) (e : Entry) (step : Step) (v : Option Entry) → entry_of q.caller q.key s.entries ≡ v
    → decide_by v s q (basis_of s p given q.act) ≡ Done e step → decide_again s e ≡ Done e step
known_again s p q given e step (Some d) there is = absurd (not_done (act.ghosts.eq d.change.act q.act) d e step is)
known_again s p q given e step None there is = new_again s p q given e step _ refl there is

-- an entry that the machine makes is made again where its request is decided with what its outcome records
pub decided_again : (s : State) (p : ℕ) (q : Asked) (given : Option Given) (e : Entry) (step : Step) → decide s p q given ≡ Done e step → decide_again s e ≡ Done e step
decided_again s p q given e step is = known_again s p q given e step _ refl is

-- and goes behind those that were replayed
replayed_on : (opening s : State) (es : List Entry) (p : ℕ) (q : Asked) (given : Option Given) (e : Entry) (step : Step) → s ≡ replay opening es → decide s p q given ≡ Done e step
    → replay opening (es ++ e ∷ []) ≡ with_entry e (state_after_step step s)
replayed_on opening s es p q given e step is done =
    replay-append opening es e ∙ subst (λ t. state_after t (decide_again t e) ≡ with_entry e (state_after_step step s)) is (ap (state_after s) (decided_again s p q given e step done))

pub append_nothing : (es : List Entry) → es ++ [] ≡ es
append_nothing [] = refl
append_nothing (e ∷ es) = ap (λ l. e ∷ l) (append_nothing es)

replayed_by : (opening s : State) (es : List Entry) (p : ℕ) (q : Asked) (given : Option Given) (a : Answer) → s ≡ replay opening es → decide s p q given ≡ a
    → state_after s a ≡ replay opening (es ++ entries_of_answer a)
replayed_by opening s es p q given (Kept e) is done = is ∙ ap (replay opening) (sym (append_nothing es))
replayed_by opening s es p q given (No why) is done = is ∙ ap (replay opening) (sym (append_nothing es))
replayed_by opening s es p q given (Done e step) is done = sym (replayed_on opening s es p q given e step is done)

-- so the state is the replay of its entries after every request
pub replayed_always : (opening s : State) (es : List Entry) (p : ℕ) (q : Asked) (given : Option Given) → s ≡ replay opening es
    → state_after s (decide s p q given) ≡ replay opening (es ++ entries_of_answer (decide s p q given))
replayed_always opening s es p q given is = replayed_by opening s es p q given _ is refl

-- ---- a request that was accepted is found again

word_self : (w : List ℕ) → pointwise nat_eq w w ≡ true
word_self [] = refl
word_self (x ∷ xs) =
    let one : nat_eq x x ≡ true = grind (arith, common_steps) in
    rw (one, word_self xs) refl

found_by : (b : Bool) (d e : Entry) (old next : Option Entry) → (old ≡ None → next ≡ Some e) → cond b (Some d) old ≡ None → cond b (Some d) next ≡ Some e
found_by true d e old next on new = absurd (cc (new))
found_by false d e old next on new = on new

found_new : (q : Asked) (es : List Entry) (e : Entry) → e.change ≡ q → entry_of q.caller q.key es ≡ None → entry_of q.caller q.key (es ++ e ∷ []) ≡ Some e
found_new q [] e same new =
    let caller : pointwise nat_eq e.change.caller q.caller ≡ true = rw same (word_self q.caller) in
    let key : pointwise nat_eq e.change.key q.key ≡ true = rw same (word_self q.key) in
    rw (caller, key) refl
found_new q (d ∷ es) e same new =
    found_by (pointwise nat_eq d.change.caller q.caller && pointwise nat_eq d.change.key q.key) d e _ _ (found_new q es e same) new

kept_by : (q : Asked) (s : State) (e : Entry) (v : Option Entry) (basis : Option KeptList) → e.change ≡ q → v ≡ Some e → decide_by v s q basis ≡ Kept e
kept_by q s e v basis same there =
    let alike : act.ghosts.eq e.change.act q.act ≡ true = rw same (act_laws.laws-law.refl q.act) in
    ap (λ w. decide_by w s q basis) there ∙ ap (λ b. cond b (Kept e) (No (refusals.KeyReused e.number))) alike

-- a step leaves the entries as they are
pub same_entries : (t : Step) (s : State) → (state_after_step t s).entries ≡ s.entries
same_entries (steps.Amended a) s = refl
same_entries (steps.DaySet d) s = refl
same_entries (steps.DayClosed d) s = refl
same_entries (steps.CaseFiled c) s = refl
same_entries (steps.FormPut number day) s = refl
same_entries (steps.LifePut number life) s = refl
same_entries (steps.Issued number site life list) s = refl

repeated_new : (s : State) (n : ℕ) (q : Asked) (other : Option Given) (e : Entry) (step : Step) (r : Result Effect Refusal)
    → entry_of q.caller q.key s.entries ≡ None → decide_new s q r ≡ Done e step → decide (with_entry e (state_after_step step s)) n q other ≡ Kept e
repeated_new s n q other e step (Err why) new is = absurd (cc (is))
repeated_new s n q other e step (Ok f) new is =
    let made_so : entry s q f.outcome ≡ e = cc (is) in
    let same : e.change ≡ q = sym (ap (λ (d : Entry). d.change) made_so) in
    kept_by q (with_entry e (state_after_step step s)) e _ _ same (ap (λ (es : List Entry). entry_of q.caller q.key (es ++ e ∷ [])) (same_entries step s) ∙ found_new q s.entries e same new)

repeated_by : (s : State) (p n : ℕ) (q : Asked) (given other : Option Given) (e : Entry) (step : Step) (v : Option Entry) → entry_of q.caller q.key s.entries ≡ v
    → decide_by v s q (basis_of s p given q.act) ≡ Done e step → decide (with_entry e (state_after_step step s)) n q other ≡ Kept e
repeated_by s p n q given other e step (Some d) there is = absurd (not_done (act.ghosts.eq d.change.act q.act) d e step is)
repeated_by s p n q given other e step None there is = repeated_new s n q other e step _ there is

-- a request that was accepted is answered its entry where it comes again
pub repeated : (s : State) (p n : ℕ) (q : Asked) (given other : Option Given) (e : Entry) (step : Step) → decide s p q given ≡ Done e step
    → decide (state_after s (Done e step)) n q other ≡ Kept e
repeated s p n q given other e step is = repeated_by s p n q given other e step _ refl is

-- another act under the key of an entry is refused
pub reused : (s : State) (p : ℕ) (q : Asked) (given : Option Given) (e : Entry) → entry_of q.caller q.key s.entries ≡ Some e → act.ghosts.eq e.change.act q.act ≡ false
    → decide s p q given ≡ No (refusals.KeyReused e.number)
reused s p q given e there other =
    ap (λ v. decide_by v s q (basis_of s p given q.act)) there ∙ ap (λ b. cond b (Kept e) (No (refusals.KeyReused e.number))) other
