-- The determinations that are marked for review: those that stand and whose list would now be different.
use Rattle.std.specs.Prelude.{◌≡◌, ◌≢◌, ◌≤ℤ◌, ℕ, Bool, true, false, cond, List, [], ◌∷◌, ◌++◌, length, Option, Some, None, IfSome}
use Rattle.std.specs.Option.{option_map, option_map_or}
use Rattle.jiff_core.specs.declared.civil.date.Date.{Date}
use Rattle.jiff_core.specs.Date.{epoch_day}
use Rattle.oe_findings.specs.List.{findings_of}
use Rattle.determination_dates.specs.Computed.{with_some}
use Rattle.determination_dates.specs.Statuses.{status_of}
use Rattle.case_records.specs.declared.case.CaseView.{CaseView}
use Rattle.case_records.specs.declared.case.KeptCase.{KeptCase}
use Rattle.case_records.specs.declared.case.KeptList.{KeptList}
use Rattle.case_acts.specs.Standing.{is_standing}
use Rattle.case_acts.specs.declared.effect.Step.{Step}
use Rattle.case_acts.specs.declared.effect.Step.TheVariants as steps
use Rattle.review_marks.specs.Books.{differs, is_marked_row, numbers_up_to}
use Rattle.review_marks.specs.declared.row.Row.{Row}
use Rattle.desk_machine.specs.States.{State, case_at}
use Rattle.desk_machine.specs.Views.{status_on, view_of}

-- the determination of a case stands on the desk's day
abbrev pub stands_on : Option Date → KeptCase → Bool
stands_on day c = is_standing (status_on day c)

-- the determination of the case of this number stands
abbrev pub stands_in : State → ℕ → Bool
stands_in s number = option_map_or (stands_on s.day) (case_at s.cases number) false

-- the row of a determination that was made on this list: the data to compare
abbrev pub comparison_row : State → KeptCase → KeptList → Row
comparison_row s c kept = record { filing = c.submission.filing; stored = kept.list; marked = differs kept.list (findings_of s.register c.submission.filing) }

-- the row of a case; none unless its determination stands
abbrev pub watched_row : State → KeptCase → Option Row
watched_row s c = cond (stands_on s.day c) (option_map (comparison_row s c) c.list) None

-- the row of the case of this number
abbrev pub row_of : State → ℕ → Option Row
row_of s number = with_some (case_at s.cases number) (watched_row s)

-- the case of this number is marked
abbrev pub is_marked : State → ℕ → Bool
is_marked s number = is_marked_row (row_of s number)

-- the numbers of all marked cases, rising
abbrev pub marks : State → List ℕ
marks s = numbers_up_to (is_marked s) (length s.cases)

-- ---- the view of a case

-- the case of this number, where there is one, and whether it is marked
abbrev pub case_view : State → ℕ → Option CaseView
case_view s number = option_map (view_of s.day (is_marked s number) number) (case_at s.cases number)

-- ---- steps that fit the state

-- a new case has the desk's day and no list; the desk's day does not move back; and no act but an issuance makes a determination stand
-- again
abbrev pub Goes : State → Step → Type 0
Goes s (steps.Amended a) = Unit {0}
Goes s (steps.DaySet d) = IfSome s.day (λ kept. epoch_day kept ≤ℤ epoch_day d)
Goes s (steps.DayClosed d) = Unit {0}
Goes s (steps.CaseFiled c) = (c.list ≡ None) × (s.day ≢ None)
Goes s (steps.FormPut number day) = Unit {0}
Goes s (steps.LifePut number life) = (c : KeptCase) → case_at s.cases number ≡ Some c → stands_on s.day c ≡ false → stands_on s.day (record c { life = life }) ≡ false
Goes s (steps.Issued number site life kept) = Unit {0}

-- a determination is issued on the list of its structure over the present airfields
abbrev pub IsPresent : State → Step → Type 0
IsPresent s (steps.Amended a) = Unit {0}
IsPresent s (steps.DaySet d) = Unit {0}
IsPresent s (steps.DayClosed d) = Unit {0}
IsPresent s (steps.CaseFiled c) = Unit {0}
IsPresent s (steps.FormPut number day) = Unit {0}
IsPresent s (steps.LifePut number life) = Unit {0}
IsPresent s (steps.Issued number site life kept) = kept.list ≡ findings_of s.register site
