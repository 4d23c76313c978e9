use Rattle.std.proofs.Common.{◌≡◌, ◌≢◌, sym, ap, ◌∙◌, subst, ℕ, List, Option, Some, Result, Ok, Err, option_copied}
use Rattle.std.specs.Prelude.{MatchResult}
use Rattle.std.specs.Option.{option_map}
use Rattle.jiff_core.specs.declared.civil.date.Date.{Date}
use Rattle.airfields.specs.Sites.{Site}
use Rattle.case_requests.specs.declared.act.Act.TheVariants as acts
use Rattle.case_records.specs.declared.case.KeptCase.{KeptCase}
use Rattle.case_records.specs.declared.case.KeptList.{KeptList}
use Rattle.case_records.specs.declared.refusal.Refusal.{Refusal}
use Rattle.case_records.specs.declared.refusal.Refusal.TheVariants as refusals
use Rattle.case_acts.specs.declared.effect.Effect.{Effect}
use Rattle.case_acts.specs.declared.revision.Revision.{Revision}
use Rattle.case_acts.specs.Effects.{site_with}
use Rattle.case_acts.specs.Rulings.{revision_ruling}
use Rattle.desk_machine.specs.States.{State, case_at}
use Rattle.desk_machine.specs.Evaluations.{Given, basis_of, evaluation_of}
use Rattle.desk_machine.specs.Machine.{on_day, on_kept, on_list, ruling_of_act}
use Rattle.filing_desk.proofs.desk.Desk.on_revise.Goals as goal

-- the ruling of a revision, where the day, the case and its list are found
revision_is : (s : State) (p : ℕ) (g : Option Given) (number : ℕ) (x : Revision) (closed : List Date) (today : Date) (c : KeptCase) (site : Site) (kept : KeptList)
    → closed ≡ s.closed → Some today ≡ s.day → Some c ≡ case_at s.cases number → site ≡ site_with x c → kept ≡ evaluation_of s p g site
    → ruling_of_act s (basis_of s p g (acts.Revise number x.started x.terrain x.height x.finding)) (acts.Revise number x.started x.terrain x.height x.finding) ≡ revision_ruling number x closed kept today c
revision_is s p g number x closed today c site kept days day there same list =
    let on : Option Date → Option KeptCase → Result Effect Refusal = λ d v. on_day d (λ t. on_kept v (λ k. on_list (option_map (evaluation_of s p g) (option_map (site_with x) v)) (λ l. revision_ruling number x s.closed l t k))) in
    ap (λ (d : Option Date). on d (case_at s.cases number)) (sym day) ∙ ap (λ (v : Option KeptCase). on (Some today) v) (sym there)
    ∙ ap (λ (f : Site). revision_ruling number x s.closed (evaluation_of s p g f) today c) (sym same) ∙ ap (λ (l : KeptList). revision_ruling number x s.closed l today c) (sym list)
    ∙ ap (λ (ds : List Date). revision_ruling number x ds kept today c) (sym days)

pub returns-clause-value : goal.returns-clause-value
returns-clause-value c =
    let is = revision_is c.args.self.now c.args.p (option_copied c.args.given) c.args.number c.args.asked.now c.self.inside.closed c.in-Some.today c.in-Some-case.case.now c.with_facts-filing.result c.in-Ok.kept
    (ap (λ (s : State). s.closed) c.self.view_is) c.in-Some.ensures.value c.in-Some-case.ensures.value c.with_facts-filing.ensures c.in-Ok.ensures in
    subst (λ (q : Result Effect Refusal). MatchResult c.revise.result (λ e. q ≡ Ok e) (λ why. why ≢ refusals.NoMemory → q ≡ Err why)) (sym is) c.revise.ensures.value
