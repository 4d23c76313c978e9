-- The rows of cases from before there were revisions.
use Rattle.std.specs.Prelude.{ℕ, zero, suc, ◌≡◌, List, [], ◌∷◌, ◌++◌, Option, Some, None, IfSome, codes}
use Rattle.std.specs.Fmt.{decimal}
use Rattle.determination_dates.specs.Text.{date_text}
use Rattle.determination_dates.specs.declared.determination.Record.{Record}
use Rattle.case_records.specs.declared.case.KeptList.{KeptList}
use Rattle.case_records.specs.declared.case.KeptCase.{KeptCase}
use Rattle.wire_values.specs.Commas.{joined}
use Rattle.wire_values.specs.Words.{decision_word, optional_date}
use Rattle.row_register.specs.Parts.{parts_of}
use Rattle.row_cases.specs.declared.older.TheConstants.{REVISIONS_PLACE}
use Rattle.row_cases.specs.Entries.{list_fields}
use Rattle.row_cases.specs.Filings.{notice_parts, pending_word}

-- ---- such a row as one of today

-- the fields with another before the one of this index, where there are so many
abbrev pub with_field : ℕ → List ℕ → List (List ℕ) → List (List ℕ)
with_field zero field fields = field ∷ fields
with_field (suc n) field [] = []
with_field (suc n) field (x ∷ []) = x ∷ []
with_field (suc n) field (x ∷ y ∷ ys) = x ∷ with_field n field (y ∷ ys)

-- the row, with no revisions where it has a determination: only then has it a field at their index
abbrev pub renewed_row : List ℕ → List ℕ
renewed_row row = joined (with_field REVISIONS_PLACE (codes "0") (parts_of 44 row))

-- ---- what such a row spells

-- a determination after its decision, without a count of revisions
abbrev pub older_record_fields : Record → ℕ → List (List ℕ)
older_record_fields r last = decimal last ∷ date_text r.issued ∷ optional_date r.deadline ∷ date_text r.ordinary ∷ pending_word r.pending
    ∷ optional_date r.affirmed ∷ optional_date r.set_expiry ∷ decimal r.extensions ∷ []

abbrev pub older_judged_fields : Option Record → Option KeptList → List (List ℕ)
older_judged_fields None kept = codes "-" ∷ []
older_judged_fields (Some r) None = codes "-" ∷ []
older_judged_fields (Some r) (Some kept) = decision_word r.decision ∷ (older_record_fields r kept.last ++ list_fields kept.list)

abbrev pub older_filing_fields : KeptCase → List (List ℕ)
older_filing_fields c = notice_parts c.submission c.received c.form c.life.end ++ older_judged_fields c.life.determination c.list

abbrev pub older_filing_row : KeptCase → List ℕ
older_filing_row c = joined (older_filing_fields c)

-- the case's determination, if it has one, was not revised
abbrev pub IsUnrevised : KeptCase → Type 0
IsUnrevised c = IfSome c.life.determination (λ (r : Record). r.revisions ≡ 0)
