-- The rows of a state of the desk.
use Rattle.std.specs.Prelude.{ℕ, ◌≤◌, ◌≡◌, Bool, not, ◌&&◌, List, None, is_none}
use Rattle.std.specs.FinMap as map
use Rattle.determination_dates.specs.Closed.{is_none_of}
use Rattle.oe_keeper.specs.Kept.{Kept}
use Rattle.oe_keeper.specs.declared.change.Table.TheVariants as tables
use Rattle.desk_machine.specs.States.{State}
use Rattle.desk_tables.specs.Tables.{found_in, AreAirfields, AreRunways, AreDays, AreFilings, AreReceipts}

-- the rows of all five tables, with or without the `format` row
pub record AreTables (has_format : Bool) (s : State) (kept : Kept) : Type 0 where
  pub airfields : AreAirfields s.register (found_in kept tables.Airfield)
  pub runways : AreRunways s.register (found_in kept tables.Runway)
  pub days : AreDays has_format s.day s.closed (found_in kept tables.Desk)
  pub filings : AreFilings s.cases (found_in kept tables.Filing)
  pub receipts : AreReceipts s.entries (found_in kept tables.Receipt)
  pub only : (t : ℕ) (key : List ℕ) → 5 ≤ t → map.get kept (t, key) ≡ None

-- the desk is empty
abbrev pub is_bare : State → Bool
is_bare s = is_none_of s.register && is_none s.day && is_none_of s.closed && is_none_of s.cases && is_none_of s.entries

-- these are the rows of the state: the tables have a format row unless the desk is empty
abbrev pub AreRows : State → Kept → Type 0
AreRows s kept = AreTables (not (is_bare s)) s kept
