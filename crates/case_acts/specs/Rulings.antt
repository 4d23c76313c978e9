-- The result of each act on a case: an effect or a refusal.
use Rattle.std.specs.Prelude.{ℕ, Bool, List, [], ◌∷◌, Option, Some, None, Result, Ok, Err, slice_get}
use Rattle.jiff_core.specs.declared.civil.date.Date.{Date}
use Rattle.case_requests.specs.declared.submission.Submission.{Submission}
use Rattle.case_requests.specs.declared.act.Impact.{Impact}
use Rattle.case_records.specs.declared.refusal.Refusal.{Refusal}
use Rattle.case_records.specs.declared.refusal.Refusal.TheVariants as refusals
use Rattle.case_records.specs.declared.case.KeptList.{KeptList}
use Rattle.case_records.specs.declared.case.KeptCase.{KeptCase}
use Rattle.case_acts.specs.declared.effect.Effect.{Effect}
use Rattle.case_acts.specs.declared.extension.Extension.{Extension}
use Rattle.case_acts.specs.declared.revision.Revision.{Revision}
use Rattle.case_acts.specs.Rules.{form_rules, determination_rules, petition_rules, disposal_rules, extension_rules, revision_rules, fcc_rules, abandon_rules}
use Rattle.case_acts.specs.Effects.{filing_effect, form_came, determination_effect, petition_effect, disposal_effect, extension_effect, revision_effect, license_effect, abandonment_effect}

-- the first broken rule; else the date limit, where there is no effect; else the effect
abbrev pub by_first : Option Refusal → Option Effect → Result Effect Refusal
by_first (Some why) e = Err why
by_first None None = Err refusals.DateRange
by_first None (Some e) = Ok e

abbrev pub ruling : List Refusal → Option Effect → Result Effect Refusal
ruling broken e = by_first (slice_get broken 0) e

abbrev pub file_ruling : ℕ → Date → Submission → Result Effect Refusal
file_ruling number today n = ruling [] (filing_effect number today n)

abbrev pub form_ruling : ℕ → Date → KeptCase → Result Effect Refusal
form_ruling number today c = ruling (form_rules c) (Some (form_came number today c))

abbrev pub determination_ruling : ℕ → Option Impact → List Date → KeptList → Date → KeptCase → Result Effect Refusal
determination_ruling number finding closed kept today c = ruling (determination_rules finding kept today c) (determination_effect number finding closed kept today c)

abbrev pub petition_ruling : ℕ → Date → KeptCase → Result Effect Refusal
petition_ruling number today c = ruling (petition_rules today c) (petition_effect number c)

abbrev pub disposal_ruling : ℕ → Bool → Date → KeptCase → Result Effect Refusal
disposal_ruling number affirm today c = ruling (disposal_rules today c) (disposal_effect number affirm today c)

abbrev pub extension_ruling : ℕ → Extension → Date → KeptCase → Result Effect Refusal
extension_ruling number x today c = ruling (extension_rules x today c) (extension_effect number x c)

abbrev pub revision_ruling : ℕ → Revision → List Date → KeptList → Date → KeptCase → Result Effect Refusal
revision_ruling number x closed kept today c = ruling (revision_rules x kept today c) (revision_effect number x closed kept today c)

abbrev pub fcc_ruling : ℕ → Option Date → Date → KeptCase → Result Effect Refusal
fcc_ruling number completion today c = ruling (fcc_rules today c) (license_effect number completion today c)

abbrev pub abandon_ruling : ℕ → Date → KeptCase → Result Effect Refusal
abandon_ruling number today c = ruling (abandon_rules today c) (Some (abandonment_effect number c))
