-- The effect of each act on a case, where no rule is broken. There is no effect where a date that the act computes is outside the
-- limit.
use Rattle.std.specs.Prelude.{ℕ, Bool, true, false, Option, Some, None, List, ◌+ℤ◌, ◌-ℤ◌, int_le, cond}
use Rattle.std.specs.Option.{option_map}
use Rattle.jiff_core.specs.declared.civil.date.Date.{Date}
use Rattle.jiff_core.specs.Date.{epoch_day}
use Rattle.airfields.specs.Sites.{Site, revised_site}
use Rattle.determination_dates.specs.declared.determination.Record.{Record}
use Rattle.determination_dates.specs.declared.life.End.{End}
use Rattle.determination_dates.specs.declared.life.End.TheVariants as ends
use Rattle.determination_dates.specs.declared.life.Life.{Life}
use Rattle.determination_dates.specs.declared.notice.TheConstants.{FORM_DAYS}
use Rattle.determination_dates.specs.Notices.{days_over}
use Rattle.determination_dates.specs.Effects.{effective_date}
use Rattle.determination_dates.specs.Computed.{with_some, timeliness_of, issued_record, affirmed_record, extended_record, revised_record, expiry_date, last_date}
use Rattle.case_requests.specs.declared.submission.Submission.{Submission}
use Rattle.case_requests.specs.declared.act.Impact.{Impact}
use Rattle.case_records.specs.declared.outcome.Outcome.{Outcome}
use Rattle.case_records.specs.declared.outcome.Outcome.TheVariants as outcomes
use Rattle.case_records.specs.declared.case.KeptList.{KeptList}
use Rattle.case_records.specs.declared.case.KeptCase.{KeptCase}
use Rattle.case_acts.specs.declared.effect.Effect.{Effect}
use Rattle.case_acts.specs.declared.effect.Step.{Step}
use Rattle.case_acts.specs.declared.effect.Step.TheVariants.{CaseFiled, FormPut, LifePut, Issued}
use Rattle.case_acts.specs.declared.extension.Extension.{Extension}
use Rattle.case_acts.specs.declared.revision.Revision.{Revision}
use Rattle.case_acts.specs.declared.notice.TheConstants.{PRESUMED_HEIGHT}
use Rattle.case_acts.specs.Decisions.{decision_by, is_reviewable}

abbrev pub effect : Outcome → Step → Effect
effect outcome step = record { outcome = outcome; step = step }

-- ---- notices

-- a new case
abbrev pub new_case : Date → Submission → KeptCase
new_case today n = record { submission = n; received = today; form = None; life = record { end = None; determination = None }; list = None }

-- the number of days by which the notice came after the application to the FCC: 77.7(c)
abbrev pub fcc_days : Date → Option Date → Option ℕ
fcc_days today application = option_map (λ a. days_over (epoch_day today -ℤ epoch_day a)) application

-- a structure of more than 2,000 feet is presumed to be a hazard, unless a statement explains it: 77.7(d)
abbrev pub explanation_of : Submission → Option Bool
explanation_of n = cond (int_le n.filing.height PRESUMED_HEIGHT) None (Some n.statement)

-- a case of this number is opened
abbrev pub filing_effect : ℕ → Date → Submission → Option Effect
filing_effect number today n =
    option_map (λ t. effect (outcomes.Filed number t (fcc_days today n.fcc) (explanation_of n)) (CaseFiled (new_case today n)))
    (timeliness_of today n.start n.permit n.emergency)

-- the number of days by which the form of an emergency is late; it is due 5 days after the notice: 77.7(e)
abbrev pub form_days : Date → Date → ℕ
form_days received today = days_over (epoch_day today -ℤ (epoch_day received +ℤ FORM_DAYS))

abbrev pub form_came : ℕ → Date → KeptCase → Effect
form_came number today c = effect (outcomes.FormCame number (form_days c.received today)) (FormPut number today)

-- ---- determinations

-- the life of the case with this record
abbrev pub with_record : KeptCase → Record → Life
with_record c r = record { end = c.life.end; determination = Some r }

abbrev pub ended_life : KeptCase → End → Life
ended_life c end = record { end = Some end; determination = c.life.determination }

-- a determination that was issued on a list
abbrev pub issue_effect : ℕ → KeptCase → KeptList → Record → Effect
issue_effect number c kept r =
    effect (outcomes.Determined number r.decision kept.last r.issued r.deadline (effective_date r) (expiry_date r) kept.list)
    (Issued number c.submission.filing (with_record c r) kept)

abbrev pub determination_effect : ℕ → Option Impact → List Date → KeptList → Date → KeptCase → Option Effect
determination_effect number finding closed kept today c =
    option_map (issue_effect number c kept) (issued_record today (decision_by finding) (is_reviewable (decision_by finding) c.submission.filing kept.list) closed)

-- ---- acts on a determination

-- an effect on the determination of the case
abbrev pub on_record : KeptCase → (Record → Option Effect) → Option Effect
on_record c e = with_some c.life.determination e

abbrev pub petition_effect : ℕ → KeptCase → Option Effect
petition_effect number c = on_record c (λ r. Some (effect (outcomes.Petitioned number) (LifePut number (with_record c (record r { pending = true })))))

abbrev pub affirmation_effect : ℕ → KeptCase → Record → Effect
affirmation_effect number c r = effect (outcomes.Disposed number true (effective_date r) (expiry_date r)) (LifePut number (with_record c r))

-- a reversal ends the case and leaves its record as it is
abbrev pub reversal_effect : ℕ → KeptCase → Effect
reversal_effect number c = effect (outcomes.Disposed number false None None) (LifePut number (ended_life c ends.Reversed))

-- an affirmation takes effect on its day at the earliest
abbrev pub settlement_effect : ℕ → Bool → Date → KeptCase → Record → Option Effect
settlement_effect number true today c r = option_map (affirmation_effect number c) (affirmed_record today r)
settlement_effect number false today c r = Some (reversal_effect number c)

abbrev pub disposal_effect : ℕ → Bool → Date → KeptCase → Option Effect
disposal_effect number affirm today c = on_record c (settlement_effect number affirm today c)

abbrev pub moved : ℕ → KeptCase → Record → Option Effect
moved number c r = with_some (expiry_date r) (λ e. option_map (λ l. effect (outcomes.Extended number e l) (LifePut number (with_record c r))) (last_date r))

abbrev pub extension_effect : ℕ → Extension → KeptCase → Option Effect
extension_effect number x c = on_record c (λ r. with_some (extended_record x.months r) (moved number c))

-- a determination that was issued on a list of this structure, in the place of the case's
abbrev pub revised_effect : ℕ → KeptCase → Site → KeptList → Record → Effect
revised_effect number c site kept r =
    effect (outcomes.Revised number r.decision kept.last r.issued r.deadline (effective_date r) (expiry_date r) kept.list)
    (Issued number site (with_record c r) kept)

-- the structure of the case with the new facts
abbrev pub site_with : Revision → KeptCase → Site
site_with x c = revised_site c.submission.filing x.terrain x.height

-- a determination is issued today on the new facts, as any is, and the extensions that were granted still count: 77.35(a)
abbrev pub revision_effect : ℕ → Revision → List Date → KeptList → Date → KeptCase → Option Effect
revision_effect number x closed kept today c =
    on_record c
    (λ r. option_map (revised_effect number c (site_with x c) kept)
    (revised_record today (decision_by x.finding) (is_reviewable (decision_by x.finding) (site_with x c) kept.list) closed r))

-- where the FCC grants a permit the expiry is its completion date, and where it refuses one it is today: 77.35(c)
abbrev pub expiry_by_fcc : Option Date → Date → Date
expiry_by_fcc None today = today
expiry_by_fcc (Some completion) today = completion

abbrev pub license_effect : ℕ → Option Date → Date → KeptCase → Option Effect
license_effect number completion today c =
    on_record c
    (λ r. Some (effect (outcomes.Fcc number (expiry_by_fcc completion today)) (LifePut number (with_record c (record r { set_expiry = Some (expiry_by_fcc completion today) })))))

abbrev pub abandonment_effect : ℕ → KeptCase → Effect
abandonment_effect number c = effect (outcomes.Abandoned number) (LifePut number (ended_life c ends.Abandoned))
