-- The desks that rows can spell: all desks that can be reached from the empty desk are such.
use Rattle.std.specs.Prelude.{◌≡◌, ◌≤◌, ◌<◌, ◌+◌, ◌^◌, ℕ, List, [], All, length, Option, Some, None, IfSome, slice_get}
use Rattle.airport_register.specs.Registers.{IsRegister}
use Rattle.determination_dates.specs.Days.{IsLimited}
use Rattle.determination_dates.specs.Closed.{AreClosedDays}
use Rattle.case_records.specs.declared.case.KeptCase.{KeptCase}
use Rattle.case_records.specs.declared.case.KeptList.{KeptList}
use Rattle.wire_requests.specs.Limits.{IsChangeRecord}
use Rattle.row_cases.specs.Entries.{IsList}
use Rattle.row_cases.specs.Filings.{IsPlainCase}
use Rattle.row_receipts.specs.Kinds.{CanLeadTo}
use Rattle.desk_tables.specs.Names.{IsNamed}
use Rattle.desk_machine.specs.Evaluations.{Given}
use Rattle.desk_machine.specs.Machine.{version_of}
use Rattle.desk_machine.specs.States.{State, entry_of}
use Rattle.desk_machine.specs.declared.entry.Entry.{Entry}
use Rattle.desk_machine.specs.declared.entry.TheConstants.{MOST_CASES}

-- a case that a row can spell, whose list's version is at most this number of entries
pub record IsCaseOf (entries : ℕ) (c : KeptCase) : Type 0 where
  pub plain : IsPlainCase c
  pub list : IfSome c.list (λ (kept : KeptList). kept.last ≤ entries)

-- the entry at an index has its number, and an outcome that its request can have, with a list's version of at most this number of entries
pub record IsEntryOf (entries place : ℕ) (e : Entry) : Type 0 where
  pub number : e.number ≡ place + 1
  pub recorded : IsChangeRecord e.change
  pub led : CanLeadTo e.change.act e.outcome
  pub list : version_of e.outcome ≤ entries

-- no other entry has the same caller and key
abbrev pub IsOwn : List Entry → Entry → Type 0
IsOwn entries e = entry_of e.change.caller e.change.key entries ≡ Some e

pub record IsDesk (s : State) : Type 0 where
  pub register : IsRegister s.register
  pub named : All IsNamed s.register
  pub day : IfSome s.day IsLimited
  pub has_day : s.day ≡ None → s.cases ≡ []
  pub closed : AreClosedDays s.closed
  pub most : length s.cases ≤ MOST_CASES
  pub cases : All (IsCaseOf (length s.entries)) s.cases
  pub entries : (i : ℕ) → IfSome (slice_get s.entries i) (IsEntryOf (length s.entries) i)
  pub own : All (IsOwn s.entries) s.entries
  pub counted : length s.entries < 2 ^ 64

-- a list that is given, if one is, fits in a row
abbrev pub IsTold : Option Given → Type 0
IsTold given = IfSome given (λ (g : Given). IsList g.list)
