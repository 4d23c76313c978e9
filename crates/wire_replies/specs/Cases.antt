-- Cases, as the reply to a query shows them.
use Rattle.std.specs.Prelude.{ℕ, List, [], ◌∷◌, ◌++◌, Bool, Option, Some, None, codes, if◌then◌else◌}
use Rattle.std.specs.Fmt.{decimal}
use Rattle.determination_dates.specs.declared.determination.Decision.{Decision}
use Rattle.case_records.specs.declared.case.CaseView.{CaseView}
use Rattle.wire_values.specs.Commas.{joined}
use Rattle.wire_values.specs.Words.{decision_word}
use Rattle.wire_replies.specs.States.{status_word, day_text}

-- the decision, or a dash where none was made
abbrev pub decision_text : Option Decision → List ℕ
decision_text None = codes "-"
decision_text (Some decision) = decision_word decision

abbrev pub mark_word : Bool → List ℕ
mark_word marked = if marked then codes "marked" else codes "-"

abbrev pub case_fields : CaseView → List (List ℕ)
case_fields v = codes "case" ∷ decimal v.case ∷ status_word v.status ∷ decision_text v.decision ∷ day_text v.issued ∷ day_text v.deadline
    ∷ day_text v.effective ∷ day_text v.expiry ∷ day_text v.last_day ∷ mark_word v.marked ∷ []

abbrev pub case_text : CaseView → List ℕ
case_text v = joined (case_fields v) ++ codes "\n"
