-- The results of reading tables.
use Rattle.std.specs.Prelude.{◌≡◌, ◌≤◌, ℕ, Bool, None, [], IfSome, length, slice_get}
use Rattle.case_acts.specs.Cases.{IsSound}
use Rattle.determination_dates.specs.Days.{IsLimited}
use Rattle.desk_machine.specs.States.{State}
use Rattle.desk_machine.specs.declared.entry.TheConstants.{MOST_CASES}
use Rattle.oe_keeper.specs.Kept.{Kept, place}
use Rattle.desk_tables.specs.Opening.{IsBadAt, IsFirstBad}
use Rattle.desk_tables.specs.declared.opening.OpenedDesk.{OpenedDesk}
use Rattle.desk_tables.specs.declared.unread.Unread.{Unread}
use Rattle.desk_tables.specs.declared.unread.Unread.TheVariants.{Bad, NoMemory}

-- the state of an opened desk
abbrev pub desk_of : OpenedDesk → State
desk_of d = record { register = d.register; day = d.day; closed = d.closed; cases = d.cases.items; entries = d.entries.items }

-- the dates of a state and the number of its cases are within their limits; there are no cases before there is a day
pub record IsSoundDesk (s : State) : Type 0 where
  pub cases : (i : ℕ) → IfSome (slice_get s.cases i) IsSound
  pub day : IfSome s.day IsLimited
  pub most : length s.cases ≤ MOST_CASES
  pub has_day : s.day ≡ None → s.cases ≡ []

-- the row in the error, if there is one, is the first bad one
abbrev pub NamesBad : Kept → Unread → Type 0
NamesBad kept (Bad row) = IsFirstBad kept (place row.table, row.key)
NamesBad kept NoMemory = Unit {0}

-- ---- for proofs alone

-- the same for tables without missing rows, that were of the first format or not
abbrev pub NamesBadHere : Bool → Kept → Unread → Type 0
NamesBadHere is_old kept (Bad row) = (i : ℕ) × IsBadAt is_old kept i (place row.table, row.key)
NamesBadHere is_old kept NoMemory = Unit {0}
