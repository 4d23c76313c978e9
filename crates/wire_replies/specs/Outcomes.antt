-- The outcomes of accepted requests, one definition for each kind of request.
use Rattle.std.specs.Prelude.{ℕ, List, [], ◌∷◌, ◌++◌, Bool, Option, Some, None, codes, ◌==◌, if◌then◌else◌}
use Rattle.std.specs.Fmt.{decimal}
use Rattle.jiff_core.specs.declared.civil.date.Date.{Date}
use Rattle.finding_lists.specs.declared.finding.Finding.{Finding}
use Rattle.determination_dates.specs.declared.determination.Decision.{Decision}
use Rattle.determination_dates.specs.declared.timely.Timeliness.{Timeliness}
use Rattle.determination_dates.specs.declared.timely.Timeliness.TheVariants as timeliness
use Rattle.case_records.specs.declared.outcome.Outcome.{Outcome}
use Rattle.case_records.specs.declared.outcome.Outcome.TheVariants as outcomes
use Rattle.wire_values.specs.Commas.{joined}
use Rattle.wire_values.specs.Plains.{plain_word}
use Rattle.wire_values.specs.Words.{decision_word}
use Rattle.wire_replies.specs.Entries.{list_text}
use Rattle.wire_replies.specs.States.{date_word, day_text}

-- this number of days late
abbrev pub late_text : ℕ → List ℕ
late_text days = codes "late " ++ decimal days

-- this number of days late, or a word where the number is 0
abbrev pub lateness_text : List ℕ → ℕ → List ℕ
lateness_text word days = if days == 0 then word else late_text days

-- whether a notice is in time; in an emergency, the last day for its form
abbrev pub timeliness_text : Timeliness → List ℕ
timeliness_text timeliness.Timely = codes "timely"
timeliness_text (timeliness.Late days) = late_text days
timeliness_text (timeliness.Emergency due) = codes "emergency " ++ date_word due

-- whether a notice is in time before the application to the FCC, where there is one
abbrev pub fcc_text : Option ℕ → List ℕ
fcc_text None = codes "-"
fcc_text (Some days) = lateness_text (codes "timely") days

-- whether a statement answers the presumption of a hazard, where the height is above 2,000 feet (77.7(d))
abbrev pub presumption_text : Option Bool → List ℕ
presumption_text None = codes "-"
presumption_text (Some explained) = if explained then codes "explained" else codes "unexplained"

abbrev pub filed_text : ℕ → Timeliness → Option ℕ → Option Bool → List ℕ
filed_text number in_time fcc explained =
    joined (codes "case" ∷ decimal number ∷ timeliness_text in_time ∷ fcc_text fcc ∷ presumption_text explained ∷ [])

abbrev pub form_text : ℕ → ℕ → List ℕ
form_text number late = joined (codes "form" ∷ decimal number ∷ lateness_text (codes "intime") late ∷ [])

-- the form, the decision, the number of its register's last entry, and its days; the list follows
abbrev pub determined_fields : List ℕ → ℕ → Decision → ℕ → Date → Option Date → Option Date → Option Date → List (List ℕ)
determined_fields form number decision last issued deadline effective expiry =
    form ∷ decimal number ∷ decision_word decision ∷ decimal last ∷ date_word issued
    ∷ day_text deadline ∷ day_text effective ∷ day_text expiry ∷ []

-- a determination that was issued, by an act of this form
abbrev pub determined_text : List ℕ → ℕ → Decision → ℕ → Date → Option Date → Option Date → Option Date → List Finding → List ℕ
determined_text form number decision last issued deadline effective expiry list =
    joined (determined_fields form number decision last issued deadline effective expiry) ++ list_text list

abbrev pub disposal_word : Bool → List ℕ
disposal_word affirmed = if affirmed then codes "affirm" else codes "reverse"

-- a reversed determination has no days
abbrev pub disposal_day : Bool → Option Date → List ℕ
disposal_day affirmed day = if affirmed then day_text day else codes "-"

abbrev pub disposed_text : ℕ → Bool → Option Date → Option Date → List ℕ
disposed_text number affirmed effective expiry =
    joined (codes "dispose" ∷ decimal number ∷ disposal_word affirmed ∷ disposal_day affirmed effective ∷ disposal_day affirmed expiry ∷ [])

abbrev pub extended_text : ℕ → Date → Date → List ℕ
extended_text number expiry last_day = joined (codes "extend" ∷ decimal number ∷ date_word expiry ∷ date_word last_day ∷ [])

abbrev pub fcc_act_text : ℕ → Date → List ℕ
fcc_act_text number expiry = joined (codes "fcc" ∷ decimal number ∷ date_word expiry ∷ [])

-- a form whose reply shows nothing but the case
abbrev pub case_act_text : List ℕ → ℕ → List ℕ
case_act_text word number = joined (word ∷ decimal number ∷ [])

abbrev pub outcome_text : Outcome → List ℕ
outcome_text (outcomes.Plain plain) = plain_word plain
outcome_text (outcomes.Filed number in_time fcc explained) = filed_text number in_time fcc explained
outcome_text (outcomes.FormCame number late) = form_text number late
outcome_text (outcomes.Determined number decision last issued deadline effective expiry list) =
    determined_text (codes "determine") number decision last issued deadline effective expiry list
outcome_text (outcomes.Revised number decision last issued deadline effective expiry list) =
    determined_text (codes "revise") number decision last issued deadline effective expiry list
outcome_text (outcomes.Petitioned number) = case_act_text (codes "petition") number
outcome_text (outcomes.Disposed number affirmed effective expiry) = disposed_text number affirmed effective expiry
outcome_text (outcomes.Extended number expiry last_day) = extended_text number expiry last_day
outcome_text (outcomes.Fcc number expiry) = fcc_act_text number expiry
outcome_text (outcomes.Abandoned number) = case_act_text (codes "abandon") number
