-- The first broken rule of rules behind others, and the ruling of a revision that breaks none.
use Rattle.std.proofs.Common.{◌≡◌, ℕ, Bool, true, List, [], ◌++◌, Option, Some, None, Ok, refl, slice_get, sym, ap, ◌∙◌}
use Rattle.std.specs.Option.{option_map, option_to_list}
use Rattle.jiff_core.specs.declared.civil.date.Date.{Date}
use Rattle.jiff_core.specs.Date.{epoch_day}
use Rattle.airfields.specs.Sites.{Site}
use Rattle.determination_dates.specs.declared.determination.Decision.{Decision}
use Rattle.determination_dates.specs.declared.determination.Record.{Record}
use Rattle.determination_dates.specs.Statuses.{status_of}
use Rattle.determination_dates.specs.Computed.{with_some, revised_record}
use Rattle.case_records.specs.declared.case.KeptCase.{KeptCase}
use Rattle.case_records.specs.declared.case.KeptList.{KeptList}
use Rattle.case_records.specs.declared.refusal.Refusal.{Refusal}
use Rattle.case_acts.specs.declared.effect.Effect.{Effect}
use Rattle.case_acts.specs.declared.revision.Revision.{Revision}
use Rattle.case_acts.specs.Decisions.{decision_by, is_reviewable}
use Rattle.case_acts.specs.Effects.{revised_effect, revision_effect, site_with}
use Rattle.case_acts.specs.Rules.{in_status, of_record, revising_rules, revision_rules}
use Rattle.case_acts.specs.Rulings.{by_first, revision_ruling}
use Rattle.case_acts.specs.Standing.{is_in_force}

-- one that is broken comes before all behind it
pub first_here : (o : Option Refusal) (why : Refusal) (xs ys : List Refusal) → option_to_list o ≡ xs → o ≡ Some why → Some why ≡ slice_get (xs ++ ys) 0
first_here o why xs ys e is = ap (λ (l : List Refusal). slice_get (l ++ ys) 0) (sym (ap option_to_list is) ∙ e)

-- where none is, the first is that of the others
pub first_behind : (o : Option Refusal) (xs ys : List Refusal) → option_to_list o ≡ xs → o ≡ None → slice_get ys 0 ≡ slice_get (xs ++ ys) 0
first_behind o xs ys e is = ap (λ (l : List Refusal). slice_get (l ++ ys) 0) (sym (ap option_to_list is) ∙ e)

-- in force, the status breaks no rule
in_force : (today : Date) (c : KeptCase) → is_in_force (status_of c.life (epoch_day today)) ≡ true → in_status is_in_force today c ≡ []
in_force today c e = rw e refl

none_broken : (x : Revision) (kept : KeptList) (today : Date) (c : KeptCase) (old : Record) → is_in_force (status_of c.life (epoch_day today)) ≡ true → c.life.determination ≡ Some old
    → slice_get (revising_rules x c.submission.filing kept today old) 0 ≡ None → slice_get (revision_rules x kept today c) 0 ≡ None
none_broken x kept today c old status there first =
    let rules : Record → List Refusal = revising_rules x c.submission.filing kept today in
    ap (λ (l : List Refusal). slice_get (l ++ of_record c.life.determination rules) 0) (in_force today c status) ∙ (ap (λ (o : Option Record). slice_get ([] ++ of_record o rules) 0) there ∙ first)

effect_made : (number : ℕ) (x : Revision) (closed : List Date) (kept : KeptList) (today : Date) (c : KeptCase) (old new : Record) → c.life.determination ≡ Some old
    → revised_record today (decision_by x.finding) (is_reviewable (decision_by x.finding) (site_with x c) kept.list) closed old ≡ Some new
    → revision_effect number x closed kept today c ≡ Some (revised_effect number c (site_with x c) kept new)
effect_made number x closed kept today c old new there made =
    let make : Record → Option Record = λ r. revised_record today (decision_by x.finding) (is_reviewable (decision_by x.finding) (site_with x c) kept.list) closed r in
    ap (λ (o : Option Record). with_some o (λ r. option_map (revised_effect number c (site_with x c) kept) (make r))) there ∙ ap (λ (o : Option Record). option_map (revised_effect number c (site_with x c) kept) o) made

-- a revision that breaks no rule, and whose dates are within the limit, has its effect
pub revision_made : (number : ℕ) (x : Revision) (closed : List Date) (kept : KeptList) (today : Date) (c : KeptCase) (old new : Record) (site : Site) (d : Decision) (b : Bool) (e : Effect)
    → is_in_force (status_of c.life (epoch_day today)) ≡ true → c.life.determination ≡ Some old → slice_get (revising_rules x c.submission.filing kept today old) 0 ≡ None
    → site ≡ site_with x c → d ≡ decision_by x.finding → b ≡ is_reviewable d site kept.list → revised_record today d b closed old ≡ Some new → e ≡ revised_effect number c site kept new
    → revision_ruling number x closed kept today c ≡ Ok e
revision_made number x closed kept today c old new site d b e status there first site_is decision can made effect_is =
    let can_be : b ≡ is_reviewable (decision_by x.finding) (site_with x c) kept.list = can ∙ (ap (λ (k : Decision). is_reviewable k site kept.list) decision ∙ ap (λ (s : Site). is_reviewable (decision_by x.finding) s kept.list) site_is) in
    let was : revised_record today (decision_by x.finding) (is_reviewable (decision_by x.finding) (site_with x c) kept.list) closed old ≡ Some new =
    sym (ap (λ (k : Decision). revised_record today k b closed old) decision ∙ ap (λ (k : Bool). revised_record today (decision_by x.finding) k closed old) can_be) ∙ made in
    ap (λ (o : Option Refusal). by_first o (revision_effect number x closed kept today c)) (none_broken x kept today c old status there first)
    ∙ (ap (λ (o : Option Effect). by_first None o) (effect_made number x closed kept today c old new there was)
    ∙ ap (λ (f : Effect). Ok f) (sym (effect_is ∙ ap (λ (s : Site). revised_effect number c s kept new) site_is)))
