-- The rows of cases. Lengths, coordinates and elevations are whole tenths of a foot.
use Rattle.std.specs.Prelude.{ℕ, ◌^◌, ◌<◌, ◌≤◌, ◌≡◌, List, [], ◌∷◌, ◌++◌, Bool, Option, Some, None, codes, if◌then◌else◌}
use Rattle.std.specs.Fmt.{decimal}
use Rattle.jiff_core.specs.declared.civil.date.Date.{Date}
use Rattle.determination_dates.specs.Days.{IsLimited}
use Rattle.determination_dates.specs.Text.{date_text}
use Rattle.determination_dates.specs.declared.determination.Record.{Record}
use Rattle.determination_dates.specs.declared.determination.TheConstants.{MOST_EXTENSIONS, MOST_REVISIONS}
use Rattle.determination_dates.specs.declared.life.End.{End}
use Rattle.determination_dates.specs.declared.life.End.TheVariants as ends
use Rattle.case_requests.specs.declared.submission.Submission.{Submission}
use Rattle.case_records.specs.declared.case.KeptList.{KeptList}
use Rattle.case_records.specs.declared.case.KeptCase.{KeptCase}
use Rattle.wire_values.specs.Commas.{joined}
use Rattle.wire_values.specs.Words.{decision_word, optional_date, IsAnyLimited}
use Rattle.wire_requests.specs.Limits.{IsCase, IsValidSubmission}
use Rattle.wire_requests.specs.Spellings.{submission_fields}
use Rattle.row_cases.specs.Cases.{case_key}
use Rattle.row_cases.specs.Entries.{list_fields, IsList}
use Rattle.row_cases.specs.declared.filing.FilingRow.{FilingRow}

-- the end of a case, or a dash
abbrev pub end_word : Option End → List ℕ
end_word None = codes "-"
end_word (Some ends.Abandoned) = codes "abandoned"
end_word (Some ends.Reversed) = codes "reversed"

-- whether a petition is pending
abbrev pub pending_word : Bool → List ℕ
pending_word pending = if pending then codes "pending" else codes "-"

-- a determination after its decision: the number of the last entry of its list's register, its days, and its later fields
abbrev pub record_fields : Record → ℕ → List (List ℕ)
record_fields r last = decimal last ∷ date_text r.issued ∷ optional_date r.deadline ∷ date_text r.ordinary ∷ pending_word r.pending
    ∷ optional_date r.affirmed ∷ optional_date r.set_expiry ∷ decimal r.extensions ∷ decimal r.revisions ∷ []

-- a determination and its list, or a dash
abbrev pub judged_fields : Option Record → Option KeptList → List (List ℕ)
judged_fields None kept = codes "-" ∷ []
judged_fields (Some r) None = codes "-" ∷ []
judged_fields (Some r) (Some kept) = decision_word r.decision ∷ (record_fields r kept.last ++ list_fields kept.list)

-- a notice, the day on which it was received, the day on which an emergency's form was received, and the end of the case
abbrev pub notice_parts : Submission → Date → Option Date → Option End → List (List ℕ)
notice_parts s received form end = submission_fields s ++ (date_text received ∷ optional_date form ∷ end_word end ∷ [])

abbrev pub filing_fields : KeptCase → List (List ℕ)
filing_fields c = notice_parts c.submission c.received c.form c.life.end ++ judged_fields c.life.determination c.list

abbrev pub filing_row : KeptCase → List ℕ
filing_row c = joined (filing_fields c)

-- the dates are within the limit, and the extensions and the revisions are counted
pub record IsPlainRecord (r : Record) : Type 0 where
  pub issued : IsLimited r.issued
  pub deadline : IsAnyLimited r.deadline
  pub ordinary : IsLimited r.ordinary
  pub affirmed : IsAnyLimited r.affirmed
  pub set_expiry : IsAnyLimited r.set_expiry
  pub extensions : r.extensions ≤ MOST_EXTENSIONS
  pub revisions : r.revisions ≤ MOST_REVISIONS

-- a list that a row can spell
pub record IsKeptList (kept : KeptList) : Type 0 where
  pub last : kept.last < 2 ^ 64
  pub list : IsList kept.list

-- the list exists exactly where the determination does
abbrev pub IsJudged : Option Record → Option KeptList → Type 0
IsJudged None None = Unit {0}
IsJudged None (Some kept) = ⊥
IsJudged (Some r) None = ⊥
IsJudged (Some r) (Some kept) = IsPlainRecord r × IsKeptList kept

-- a case that a row can spell
pub record IsPlainCase (c : KeptCase) : Type 0 where
  pub submission : IsValidSubmission c.submission
  pub received : IsLimited c.received
  pub form : IsAnyLimited c.form
  pub judged : IsJudged c.life.determination c.list

-- key and row are the texts of this case
pub record IsFilingRow (key row : List ℕ) (v : FilingRow) : Type 0 where
  pub key_is : key ≡ case_key v.number
  pub row_is : row ≡ filing_row v.case
  pub numbered : IsCase v.number
  pub plain : IsPlainCase v.case
