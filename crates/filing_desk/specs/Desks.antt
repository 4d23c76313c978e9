-- An invariant of the desk's cases, and the desk's airfields after an amendment.
use Rattle.std.specs.Prelude.{ℕ, List, IfSome, slice_get}
use Rattle.case_records.specs.declared.case.KeptCase.{KeptCase}
use Rattle.airfields.specs.declared.airfield.Airfield.{Airfield}
use Rattle.case_acts.specs.Cases.{IsSound}
use Rattle.desk_machine.specs.States.{State}

-- the dates of each case are within the limit
abbrev pub AreSound : List KeptCase → Type 0
AreSound cases = (i : ℕ) → IfSome (slice_get cases i) IsSound

-- the desk with these airfields
abbrev pub with_register : List Airfield → State → State
with_register airfields s = record s { register = airfields }
