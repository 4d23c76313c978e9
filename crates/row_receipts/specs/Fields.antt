-- For proofs alone: the fields of outcomes, with the dates as records spell them.
use Rattle.std.specs.Prelude.{ℕ, List, [], ◌∷◌, ◌++◌, Bool, Option, codes}
use Rattle.std.specs.Fmt.{decimal}
use Rattle.jiff_core.specs.declared.civil.date.Date.{Date}
use Rattle.determination_dates.specs.Text.{date_text}
use Rattle.determination_dates.specs.declared.determination.Decision.{Decision}
use Rattle.determination_dates.specs.declared.timely.Timeliness.{Timeliness}
use Rattle.finding_lists.specs.declared.finding.Finding.{Finding}
use Rattle.wire_values.specs.Words.{decision_word, disposal_word, optional_date}
use Rattle.wire_replies.specs.Entries.{list_text}
use Rattle.wire_replies.specs.Outcomes.{lateness_text, timeliness_text, fcc_text, presumption_text}

abbrev pub filed_fields : ℕ → Timeliness → Option ℕ → Option Bool → List (List ℕ)
filed_fields n in_time fcc explained = codes "case" ∷ decimal n ∷ timeliness_text in_time ∷ fcc_text fcc ∷ presumption_text explained ∷ []

abbrev pub form_fields : ℕ → ℕ → List (List ℕ)
form_fields n late = codes "form" ∷ decimal n ∷ lateness_text (codes "intime") late ∷ []

abbrev pub disposed_fields : ℕ → Bool → Option Date → Option Date → List (List ℕ)
disposed_fields n affirmed effective expiry = codes "dispose" ∷ decimal n ∷ disposal_word affirmed ∷ optional_date effective ∷ optional_date expiry ∷ []

abbrev pub extended_fields : ℕ → Date → Date → List (List ℕ)
extended_fields n expiry last_day = codes "extend" ∷ decimal n ∷ date_text expiry ∷ date_text last_day ∷ []

abbrev pub fcc_fields : ℕ → Date → List (List ℕ)
fcc_fields n expiry = codes "fcc" ∷ decimal n ∷ date_text expiry ∷ []

-- a determination before its list, issued by an act of this form
abbrev pub issued_fields : List ℕ → ℕ → Decision → ℕ → Date → Option Date → Option Date → Option Date → List (List ℕ)
issued_fields form n decision last issued deadline effective expiry = form ∷ decimal n ∷ decision_word decision ∷ decimal last ∷ date_text issued
    ∷ optional_date deadline ∷ optional_date effective ∷ optional_date expiry ∷ []

-- the row of a case before its list
abbrev pub frame_text : List ℕ
frame_text = codes "2000-01-01,-,-,normal,-,0,0,0,0,object,0,-,-,2000-01-01,-,-,nohazard,0,2000-01-01,-,2000-01-01,-,-,-,0,0"

-- the row of a case with this list
abbrev pub framed_text : List Finding → List ℕ
framed_text list = frame_text ++ list_text list
