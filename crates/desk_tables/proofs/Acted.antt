-- What an act that has a record comes to on a desk that rows can tell.
use Rattle.std.proofs.Common.{◌+◌, ◌≡◌, ◌≤◌, refl, sym, ap, ◌∙◌, subst, arith, ℕ, Bool, true, false, nat_le, ◌&&◌, cond, List, All, length, slice_get, Option, Some, None, IfSome, Result, Ok}
use Rattle.std.proofs.lemmas.Grind.{common_steps}
use Rattle.std.specs.Option.{option_map}
use Rattle.std.proofs.lemmas.Option.{same_Some, none-some}
use Rattle.jiff_core.specs.declared.civil.date.Date.{Date}
use Rattle.airfields.specs.Sites.{Site, revised_site}
use Rattle.airfields.specs.declared.airfield.Airfield.{Airfield}
use Rattle.airport_register.specs.Registers.{IsRegister}
use Rattle.oe_findings.specs.List.{findings_of}
use Rattle.determination_dates.specs.Days.{IsLimited}
use Rattle.case_requests.specs.declared.act.Act.{Act}
use Rattle.case_requests.specs.declared.act.Act.TheVariants as acts
use Rattle.case_records.specs.declared.refusal.Refusal.{Refusal}
use Rattle.case_records.specs.declared.case.KeptCase.{KeptCase}
use Rattle.case_records.specs.declared.case.KeptList.{KeptList}
use Rattle.case_acts.specs.declared.effect.Effect.{Effect}
use Rattle.case_acts.specs.declared.revision.Revision.{Revision}
use Rattle.case_acts.specs.Rulings.{ruling}
use Rattle.case_acts.specs.Rules.{form_rules, determination_rules, petition_rules, disposal_rules, extension_rules, revision_rules, fcc_rules, abandon_rules}
use Rattle.case_acts.specs.Effects.{filing_effect, form_came, determination_effect, petition_effect, disposal_effect, extension_effect, revision_effect, license_effect, abandonment_effect}
use Rattle.wire_cursor.specs.Groups.{IsValidSite}
use Rattle.wire_requests.specs.Limits.{IsChangeRecord}
use Rattle.row_cases.specs.Entries.{IsList}
use Rattle.row_cases.specs.Filings.{IsPlainCase}
use Rattle.desk_tables.specs.Names.{IsNamed}
use Rattle.desk_machine.specs.States.{State, case_at, last_number}
use Rattle.desk_machine.specs.Evaluations.{Given, same_site, basis_of, evaluation_of, own_list, site_of}
use Rattle.desk_machine.specs.Machine.{ruling_of_act, on_day, on_kept, on_list, file_rules, day_rules}
use Rattle.desk_machine.proofs.Going.{came, ok_same, on_case_shown, on_day_shown}
use Rattle.desk_tables.specs.Reachable.{IsDesk, IsCaseOf, IsTold}
use Rattle.desk_tables.proofs.AmendmentNames.{names_put}
use Rattle.desk_tables.proofs.PlainEffects.{IsPlainEffect, life_plain}
use Rattle.desk_tables.proofs.CaseActs.{petition_plain, disposal_plain, extension_plain, license_plain, abandonment_plain, asked}
use Rattle.desk_tables.proofs.CaseStarts.{file_plain, form_plain, determination_plain}
use Rattle.desk_tables.proofs.Revisions.{facts_valid, revision_plain}
use Rattle.desk_tables.proofs.NewCases.{case_found}

-- the law of lists of findings
abbrev pub FindingsAreTold : Type 0
FindingsAreTold = (register : List Airfield) (site : Site) → IsRegister register → All IsNamed register → IsValidSite site → IsList (findings_of register site)

day_limited : (o : Option Date) (today : Date) → IfSome o IsLimited → o ≡ Some today → IsLimited today
day_limited o today h is = subst (λ d. IfSome d IsLimited) is h

-- the case of a number is plain
plain_at : (s : State) (number : ℕ) (c : KeptCase) → IsDesk s → case_at s.cases number ≡ Some c → IsPlainCase c
plain_at s number c h at = (case_found (IsCaseOf (length s.entries)) s.cases number c h.cases at).plain

ruled_some : (broken : List Refusal) (o : Option Effect) (e : Effect) → ruling broken o ≡ Ok e → o ≡ Some e
ruled_some broken o e is = (came (slice_get broken 0) o e is).some

-- the list of the structure that is evaluated
list_shown : (s : State) (p : ℕ) (given : Option Given) (site : KeptCase → Site) (o : Option KeptCase) (c : KeptCase) (act : KeptList → Result Effect Refusal) (e : Effect) (P : Type 0) → o ≡ Some c
    → (act (evaluation_of s p given (site c)) ≡ Ok e → P)
    → on_list (option_map (evaluation_of s p given) (option_map site o)) act ≡ Ok e → P
list_shown s p given site None c act e P at f is = absurd (none-some c at)
list_shown s p given site (Some d) c act e P at f is = f (ap act (ap (λ (x : KeptCase). evaluation_of s p given (site x)) (sym (same_Some d c at))) ∙ is)

-- a list that rows can tell, of a version that is not above the last entry
record IsPlainList (entries : ℕ) (kept : KeptList) : Type 0 where
  last : kept.last ≤ entries
  list : IsList kept.list

taken_plain : (entries p : ℕ) (g : Given) (own : KeptList) (same fits : Bool) → nat_le g.last p ≡ fits → p ≤ entries → IsList g.list → IsPlainList entries own
    → IsPlainList entries (cond (same && fits) (record { last = g.last; list = g.list }) own)
taken_plain entries p g own false fits is few told plain = plain
taken_plain entries p g own true false is few told plain = plain
taken_plain entries p g own true true is few told plain = record { last = below; list = told }
  where
    below : g.last ≤ entries
    below = grind (arith, common_steps, is, few)

own_plain : (s : State) (site : Site) → FindingsAreTold → IsDesk s → IsValidSite site → IsPlainList (length s.entries) (own_list s site)
own_plain s site told h valid = record { last = omega arith; list = told s.register site h.register h.named valid }

-- so is the one that a structure is judged on, whether it was given or is the desk's own
evaluated_plain : (s : State) (p : ℕ) (given : Option Given) (site : Site) → FindingsAreTold → IsDesk s → IsValidSite site → p ≤ last_number s → IsTold given
    → IsPlainList (length s.entries) (evaluation_of s p given site)
evaluated_plain s p None site told h valid few fits = own_plain s site told h valid
evaluated_plain s p (Some g) site told h valid few fits =
    taken_plain (length s.entries) p g (own_list s site) (same_site g.filing site) (nat_le g.last p) refl few fits (own_plain s site told h valid)

-- an act on a case, on a day within the limit
on_case_plain : (s : State) (a : Act) (number : ℕ) (act : Date → KeptCase → Result Effect Refusal) (e : Effect) → IsDesk s
    → ((today : Date) (c : KeptCase) → IsLimited today → case_at s.cases number ≡ Some c → IsPlainCase c → act today c ≡ Ok e → IsPlainEffect s a e)
    → on_day s.day (λ today. on_kept (case_at s.cases number) (act today)) ≡ Ok e → IsPlainEffect s a e
on_case_plain s a number act e h f is =
    on_case_shown s number act e (IsPlainEffect s a e)
    (λ today c day at k. f today c (day_limited s.day today h.day day) at (plain_at s number c h at) k) is

pub acted_plain : (s : State) (p : ℕ) (given : Option Given) (caller key : List ℕ) (a : Act) (e : Effect) → FindingsAreTold → IsDesk s → p ≤ last_number s → IsTold given
    → IsChangeRecord (record { caller = caller; key = key; act = a })
    → ruling_of_act s (basis_of s p given a) a ≡ Ok e → IsPlainEffect s a e
acted_plain s p given caller key (acts.Amend a) e told h few fits q is =
    subst (IsPlainEffect s (acts.Amend a)) (ok_same _ e is) (record { led = refl; list = omega arith; step = names_put caller key a q.shape })
acted_plain s p given caller key (acts.Day d) e told h few fits q is =
    subst (IsPlainEffect s (acts.Day d)) (same_Some _ e (ruled_some (day_rules s.day d) _ e is)) (record { led = refl; list = omega arith; step = q.valid })
acted_plain s p given caller key (acts.Closed d) e told h few fits q is =
    subst (IsPlainEffect s (acts.Closed d)) (ok_same _ e is) (record { led = refl; list = omega arith; step = q.valid })
acted_plain s p given caller key (acts.File n) e told h few fits q is =
    on_day_shown s.day _ e (IsPlainEffect s (acts.File n) e)
    (λ today day k.
    let shown = came (slice_get (file_rules s.cases) 0) (filing_effect (length s.cases + 1) today n) e k in
    file_plain s today n e day (day_limited s.day today h.day day) q.valid shown.none shown.some) is
acted_plain s p given caller key (acts.Form number) e told h few fits q is =
    on_case_plain s (acts.Form number) number _ e h
    (λ today c day at plain k. form_plain s number today c e day plain (same_Some (form_came number today c) e (ruled_some (form_rules c) _ e k))) is
acted_plain s p given caller key (acts.Determine number finding) e told h few fits q is =
    on_case_plain s (acts.Determine number finding) number _ e h
    (λ today c day at plain k. list_shown s p given site_of (case_at s.cases number) c _ e (IsPlainEffect s (acts.Determine number finding) e) at
    (λ m.
    let kept = evaluation_of s p given c.submission.filing in
    let k = evaluated_plain s p given c.submission.filing told h plain.submission.filing few fits in
    determination_plain s number finding today c kept e day plain k.last h.counted k.list
    (ruled_some (determination_rules finding kept today c) (determination_effect number finding s.closed kept today c) e m)) k) is
acted_plain s p given caller key (acts.Petition number party) e told h few fits q is =
    on_case_plain s (acts.Petition number party) number _ e h
    (λ today c day at plain k. life_plain s (acts.Petition number party) number c e at
    (petition_plain number party c e plain (ruled_some (petition_rules today c) (petition_effect number c) e k))) is
acted_plain s p given caller key (acts.Dispose number affirm) e told h few fits q is =
    on_case_plain s (acts.Dispose number affirm) number _ e h
    (λ today c day at plain k. life_plain s (acts.Dispose number affirm) number c e at
    (disposal_plain number affirm today c e day plain (ruled_some (disposal_rules today c) (disposal_effect number affirm today c) e k))) is
acted_plain s p given caller key (acts.Extend number months started filing warranted) e told h few fits q is =
    on_case_plain s (acts.Extend number months started filing warranted) number _ e h
    (λ today c day at plain k. life_plain s (acts.Extend number months started filing warranted) number c e at
    (extension_plain number months started filing warranted c e q.valid.1 q.valid.2 plain
    (ruled_some (extension_rules (asked months started filing warranted) today c) (extension_effect number (asked months started filing warranted) c) e k))) is
acted_plain s p given caller key (acts.Revise number started ground height finding) e told h few fits q is =
    on_case_plain s (acts.Revise number started ground height finding) number _ e h
    (λ today c day at plain k. list_shown s p given (λ d. revised_site (site_of d) ground height) (case_at s.cases number) c _ e (IsPlainEffect s (acts.Revise number started ground height finding) e) at
    (λ m.
    let x : Revision = record { started = started; terrain = ground; height = height; finding = finding } in
    let site = revised_site c.submission.filing ground height in
    let kept = evaluation_of s p given site in
    let k = evaluated_plain s p given site told h (facts_valid c.submission.filing ground height plain.submission.filing q.valid.1) few fits in
    let shown = came (slice_get (revision_rules x kept today c) 0) (revision_effect number x s.closed kept today c) e m in
    revision_plain s number started ground height finding today c kept e day q.valid.1 plain k.last h.counted k.list shown.none shown.some) k) is
acted_plain s p given caller key (acts.Fcc number completion) e told h few fits q is =
    on_case_plain s (acts.Fcc number completion) number _ e h
    (λ today c day at plain k. life_plain s (acts.Fcc number completion) number c e at
    (license_plain number completion today c e q.valid.1 day plain (ruled_some (fcc_rules today c) (license_effect number completion today c) e k))) is
acted_plain s p given caller key (acts.Abandon number) e told h few fits q is =
    on_case_plain s (acts.Abandon number) number _ e h
    (λ today c day at plain k. life_plain s (acts.Abandon number) number c e at
    (abandonment_plain number c e plain (same_Some (abandonment_effect number c) e (ruled_some (abandon_rules today c) (Some (abandonment_effect number c)) e k)))) is
