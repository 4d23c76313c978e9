-- Reading rows one after another.
use Rattle.std.specs.Prelude.{◌≡◌, ◌≢◌, ◌<◌, ◌≤◌, ◌+◌, ◌-◌, ℕ, Bool, true, false, ◌&&◌, List, [], ◌∷◌, ◌++◌, length, Option, Some, None, IfSome, slice_get, slice_set, replicate}
use Rattle.std.specs.List.{flat_map}
use Rattle.std.specs.Option.{option_to_list}
use Rattle.jiff_core.specs.declared.civil.date.Date.{Date}
use Rattle.airfields.specs.declared.airfield.Airfield.{Airfield}
use Rattle.airfields.specs.declared.airfield.Airfield.TheVariants as fields
use Rattle.airport_register.specs.Amendments.{after_amendment, first_broken}
use Rattle.airport_register.specs.declared.amendment.Amendment.{Amendment}
use Rattle.airport_register.specs.declared.amendment.Amendment.TheVariants.{PutAirport, PutHeliport, PutRunway}
use Rattle.determination_dates.specs.Closed.{with_day}
use Rattle.case_records.specs.declared.case.KeptCase.{KeptCase}
use Rattle.case_records.specs.declared.case.KeptList.{KeptList}
use Rattle.case_acts.specs.Cases.{IsSound}
use Rattle.row_register.specs.Desk.{IsValidDesk}
use Rattle.row_register.specs.declared.desk.DeskRow.{DeskRow}
use Rattle.row_register.specs.declared.desk.DeskRow.TheVariants as days
use Rattle.row_cases.specs.declared.filing.FilingRow.{FilingRow}
use Rattle.row_receipts.specs.declared.receipt.ReceiptRow.{ReceiptRow}
use Rattle.desk_machine.specs.Machine.{version_of}
use Rattle.desk_machine.specs.States.{State}
use Rattle.desk_machine.specs.declared.entry.Entry.{Entry}
use Rattle.desk_machine.specs.declared.entry.TheConstants.{MOST_CASES}
use Rattle.desk_tables.specs.Values.{Row, IsRowOf}
use Rattle.desk_tables.specs.Planned.{plans_row}
use Rattle.desk_tables.specs.declared.layout.Layout.{Layout}
use Rattle.desk_tables.specs.declared.value.RowValue.{RowValue}
use Rattle.desk_tables.specs.declared.value.RowValue.TheVariants.{Airfield as AnAirfield, Runway, Desk, Case, Request}

-- the data read so far: the airfields, whether the tables have a format, the desk's day, the closed days, the cases,
-- and the accepted requests, each at the index of its number, with a slot for each request of the tables
pub record Part : Type 0 where
  pub register : List Airfield
  pub has_format : Bool
  pub day : Option Date
  pub closed : List Date
  pub cases : List KeptCase
  pub requests : List (Option Entry)

-- nothing was read, of tables with this number of requests
abbrev pub unread_part : ℕ → Part
unread_part requests = record { register = []; has_format = false; day = None; closed = []; cases = []; requests = replicate requests None }

-- an airfield is added; its runways have rows of their own
abbrev pub put_of : Airfield → Amendment
put_of (fields.Airport a) = PutAirport a.id a.category a.arp a.elevation
put_of (fields.Heliport h) = PutHeliport h

abbrev pub entry_of_row : ReceiptRow → Entry
entry_of_row v = record { number = v.number; change = v.change; outcome = v.outcome }

-- an entry number is at most the count of the requests
abbrev pub IsKnown : ℕ → List (Option Entry) → Type 0
IsKnown number requests = number ≤ length requests

abbrev pub IsListKnown : Option KeptList → List (Option Entry) → Type 0
IsListKnown o requests = IfSome o (λ (kept : KeptList). IsKnown kept.last requests)

-- ---- the rows that may come next

-- a case has the number after the case before it, there is a day, there is room, and its list's version is the number of an entry
pub record IsNextCase (p : Part) (v : FilingRow) : Type 0 where
  pub day : p.day ≢ None
  pub room : length p.cases < MOST_CASES
  pub next : v.number ≡ length p.cases + 1
  pub list : IsListKnown v.case.list p.requests

-- a request has a number from 1 to the count of the requests, which no row before it has
pub record IsNewRequest (p : Part) (v : ReceiptRow) : Type 0 where
  pub counted : 0 < v.number
  pub free : slice_get p.requests (v.number - 1) ≡ Some None
  pub list : IsKnown (version_of v.outcome) p.requests

-- the format row is not the only row of the tables
abbrev pub IsNextDay : Bool → DeskRow → Type 0
IsNextDay is_lone days.Format = is_lone ≡ false
IsNextDay is_lone (days.Now date) = Unit {0}
IsNextDay is_lone (days.Closed date) = Unit {0}

-- the value may come after those that were read
abbrev pub Follows : Bool → Part → RowValue → Type 0
Follows is_lone p (AnAirfield v) = first_broken p.register (put_of v) ≡ None
Follows is_lone p (Runway v) = first_broken p.register (PutRunway v.id v.runway) ≡ None
Follows is_lone p (Desk v) = IsNextDay is_lone v
Follows is_lone p (Case v) = IsNextCase p v
Follows is_lone p (Request v) = IsNewRequest p v

-- tables from before there were planned approaches have no row with one
abbrev pub IsInFormat : Bool → RowValue → Type 0
IsInFormat is_old v = (is_old && plans_row v) ≡ false

-- the value may come next in these tables
abbrev pub IsNext : Layout → Part → RowValue → Type 0
IsNext layout p v = Follows layout.is_lone p v × IsInFormat layout.is_old v

-- ---- the data after a row

abbrev pub with_desk_row : DeskRow → Part → Part
with_desk_row days.Format p = record p { has_format = true }
with_desk_row (days.Now date) p = record p { day = Some date }
with_desk_row (days.Closed date) p = record p { closed = with_day date p.closed }

abbrev pub with_row : RowValue → Part → Part
with_row (AnAirfield v) p = record p { register = after_amendment p.register (put_of v) }
with_row (Runway v) p = record p { register = after_amendment p.register (PutRunway v.id v.runway) }
with_row (Desk v) p = with_desk_row v p
with_row (Case v) p = record p { cases = p.cases ++ v.case ∷ [] }
with_row (Request v) p = record p { requests = slice_set p.requests (v.number - 1) (Some (entry_of_row v)) }

-- reading these rows, one after another, turns p into q
abbrev pub Reads : Layout → Part → List Row → Part → Type 0
Reads layout p [] q = p ≡ q
Reads layout p (r ∷ rs) q = (v : RowValue) × IsRowOf r v × IsNext layout p v × Reads layout (with_row v p) rs q

-- ---- all that was read, as a state

abbrev pub entries_of : List (Option Entry) → List Entry
entries_of requests = flat_map option_to_list requests

abbrev pub state_of : Part → State
state_of p = record { register = p.register; day = p.day; closed = p.closed; cases = p.cases; entries = entries_of p.requests }

-- ---- for proofs alone

-- the dates in a row's value are within the limit
abbrev pub IsSoundValue : RowValue → Type 0
IsSoundValue (AnAirfield v) = Unit {0}
IsSoundValue (Runway v) = Unit {0}
IsSoundValue (Desk v) = IsValidDesk v
IsSoundValue (Case v) = IsSound v.case
IsSoundValue (Request v) = Unit {0}
