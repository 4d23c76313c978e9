-- The state of the desk.
use Rattle.std.specs.Prelude.{ℕ, ◌-◌, ◌==◌, List, [], ◌∷◌, ◌++◌, length, Option, Some, None, ◌&&◌, cond, nat_eq, slice_get, slice_set}
use Rattle.std.specs.Cmp.Lexicographic.{pointwise}
use Rattle.jiff_core.specs.declared.civil.date.Date.{Date}
use Rattle.airfields.specs.Sites.{Site}
use Rattle.airfields.specs.declared.airfield.Airfield.{Airfield}
use Rattle.airport_register.specs.Amendments.{after_amendment}
use Rattle.determination_dates.specs.Closed.{with_day}
use Rattle.determination_dates.specs.declared.life.Life.{Life}
use Rattle.case_requests.specs.declared.submission.Submission.{Submission}
use Rattle.case_records.specs.declared.case.KeptCase.{KeptCase}
use Rattle.case_records.specs.declared.case.KeptList.{KeptList}
use Rattle.case_acts.specs.declared.effect.Step.{Step}
use Rattle.case_acts.specs.declared.effect.Step.TheVariants as steps
use Rattle.desk_machine.specs.declared.entry.Entry.{Entry}

-- the airfields in rising order of name, the desk's day, the closed days in rising order, the cases in order of number from
-- 1 on, and the accepted requests in order of number
pub record State : Type 0 where
  pub register : List Airfield
  pub day : Option Date
  pub closed : List Date
  pub cases : List KeptCase
  pub entries : List Entry

abbrev pub empty : State
empty = record { register = []; day = None; closed = []; cases = []; entries = [] }

-- the number of the last entry, 0 where there is none
abbrev pub last_number : State → ℕ
last_number s = length s.entries

-- the case of this number
abbrev pub case_at : List KeptCase → ℕ → Option KeptCase
case_at cases number = cond (number == 0) None (slice_get cases (number - 1))

-- the entry of this caller's key
abbrev pub entry_of : List ℕ → List ℕ → List Entry → Option Entry
entry_of caller key [] = None
entry_of caller key (e ∷ es) = cond (pointwise nat_eq e.change.caller caller && pointwise nat_eq e.change.key key) (Some e) (entry_of caller key es)

-- the entry of this number
abbrev pub entry_at : List Entry → ℕ → Option Entry
entry_at entries number = cond (number == 0) None (slice_get entries (number - 1))

abbrev pub cases_changed_at : ℕ → (KeptCase → KeptCase) → List KeptCase → Option KeptCase → List KeptCase
cases_changed_at number f cases None = cases
cases_changed_at number f cases (Some c) = slice_set cases (number - 1) (f c)

-- the cases with the case of this number changed
abbrev pub with_case : ℕ → (KeptCase → KeptCase) → List KeptCase → List KeptCase
with_case number f cases = cases_changed_at number f cases (case_at cases number)

abbrev pub with_filing : Site → Submission → Submission
with_filing site n = record n { filing = site }

-- the case after a determination was issued on this list of this structure
abbrev pub issued_case : Site → Life → KeptList → KeptCase → KeptCase
issued_case site life list c = record c { submission = with_filing site c.submission; life = life; list = Some list }

-- the state after a step
abbrev pub state_after_step : Step → State → State
state_after_step (steps.Amended a) s = record s { register = after_amendment s.register a }
state_after_step (steps.DaySet d) s = record s { day = Some d }
state_after_step (steps.DayClosed d) s = record s { closed = with_day d s.closed }
state_after_step (steps.CaseFiled c) s = record s { cases = s.cases ++ c ∷ [] }
state_after_step (steps.FormPut number day) s = record s { cases = with_case number (λ c. record c { form = Some day }) s.cases }
state_after_step (steps.LifePut number life) s = record s { cases = with_case number (λ c. record c { life = life }) s.cases }
state_after_step (steps.Issued number site life list) s = record s { cases = with_case number (issued_case site life list) s.cases }

-- and with its entry appended
abbrev pub with_entry : Entry → State → State
with_entry e s = record s { entries = s.entries ++ e ∷ [] }
