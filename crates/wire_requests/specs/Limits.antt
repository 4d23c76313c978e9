-- The limits of the values in changes and queries.
use Rattle.std.specs.Prelude.{ℕ, ◌≤◌, []}
use Rattle.whole_number.specs.Whole.{HasNineDigits}
use Rattle.airfields.specs.Sites.{AreFacts}
use Rattle.airport_register.specs.declared.amendment.Amendment.{Amendment}
use Rattle.airport_register.specs.declared.amendment.Amendment.TheVariants as amendments
use Rattle.determination_dates.specs.Days.{IsLimited}
use Rattle.determination_dates.specs.declared.determination.TheConstants.{EXTENSION_MONTHS}
use Rattle.case_requests.specs.declared.act.Act.{Act}
use Rattle.case_requests.specs.declared.act.Act.TheVariants as acts
use Rattle.case_requests.specs.declared.submission.Submission.{Submission}
use Rattle.wire_values.specs.Words.{IsAnyLimited}
use Rattle.wire_values.specs.declared.counts.TheConstants.{CASE_LIMIT}
use Rattle.wire_cursor.specs.Shape.{HasShape}
use Rattle.wire_cursor.specs.Groups.{IsValidSite}
use Rattle.wire_requests.specs.Changes.{Asked}
use Rattle.wire_requests.specs.Forms.{shape_of}
use Rattle.wire_requests.specs.Spellings.{act_form, change_spelling}
use Rattle.wire_requests.specs.declared.form.Form.TheVariants as forms
use Rattle.wire_requests.specs.declared.request.Query.{Query}
use Rattle.wire_requests.specs.declared.request.Query.TheVariants as queries

-- a case number
abbrev pub IsCase : ℕ → Type 0
IsCase n = (1 ≤ n) × (n ≤ CASE_LIMIT)

abbrev pub IsValidQuery : Query → Type 0
IsValidQuery (queries.Screen site) = IsValidSite site
IsValidQuery (queries.Verdict site) = IsValidSite site
IsValidQuery (queries.Case n) = IsCase n
IsValidQuery (queries.Airfield id) = Unit {0}
IsValidQuery queries.Review = Unit {0}
IsValidQuery (queries.Report kind) = Unit {0}
IsValidQuery queries.Sync = Unit {0}

-- elevations and widths have up to nine digits here; the register refuses those outside their limits
abbrev pub IsValidAmendment : Amendment → Type 0
IsValidAmendment (amendments.PutAirport id category arp elevation) = HasNineDigits elevation
IsValidAmendment (amendments.PutRunway id runway) = HasNineDigits runway.end1.z × HasNineDigits runway.end2.z
IsValidAmendment (amendments.DropRunway id name) = Unit {0}
IsValidAmendment (amendments.PutHeliport heliport) = HasNineDigits heliport.width × HasNineDigits heliport.elevation
IsValidAmendment (amendments.Drop id) = Unit {0}

-- a notice that a record can spell
pub record IsValidSubmission (s : Submission) : Type 0 where
  pub start : IsLimited s.start
  pub permit : IsAnyLimited s.permit
  pub fcc : IsAnyLimited s.fcc
  pub filing : IsValidSite s.filing

-- dates, case numbers and the new facts of a revision are within their limits, and an extension is 1 to 18 months (77.35)
abbrev pub IsValidAct : Act → Type 0
IsValidAct (acts.Amend amendment) = IsValidAmendment amendment
IsValidAct (acts.Day date) = IsLimited date
IsValidAct (acts.Closed date) = IsLimited date
IsValidAct (acts.File submission) = IsValidSubmission submission
IsValidAct (acts.Form n) = IsCase n
IsValidAct (acts.Determine n finding) = IsCase n
IsValidAct (acts.Petition n party) = IsCase n
IsValidAct (acts.Dispose n affirm) = IsCase n
IsValidAct (acts.Extend n months started filed warranted) = IsCase n × (1 ≤ months) × (months ≤ EXTENSION_MONTHS) × IsAnyLimited filed
IsValidAct (acts.Revise n started terrain height finding) = IsCase n × AreFacts terrain height
IsValidAct (acts.Fcc n completion) = IsCase n × IsAnyLimited completion
IsValidAct (acts.Abandon n) = IsCase n

-- a change that has a record: its values are within their limits, and each field fits its form
pub record IsChangeRecord (c : Asked) : Type 0 where
  pub valid : IsValidAct c.act
  pub shape : HasShape (shape_of (forms.Act (act_form c.act))) [] (change_spelling c)
