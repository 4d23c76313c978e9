-- The contents of the five tables of a desk.
use Rattle.std.specs.Prelude.{ℕ, ◌≡◌, ◌≢◌, Bool, cond, List, Option, Some, None, codes}
use Rattle.std.specs.Option.{option_map}
use Rattle.std.specs.FinMap as map
use Rattle.jiff_core.specs.declared.civil.date.Date.{Date}
use Rattle.jiff_core.specs.Date.{epoch_day}
use Rattle.airfields.specs.Names.{IsFieldId}
use Rattle.airfields.specs.Runways.{runway_at}
use Rattle.airfields.specs.declared.runway.Runway.{Runway}
use Rattle.airfields.specs.declared.airfield.Airfield.{Airfield}
use Rattle.airport_register.specs.Amendments.{airfield_at, runways_in}
use Rattle.determination_dates.specs.Days.{IsLimited}
use Rattle.determination_dates.specs.Closed.{is_closed}
use Rattle.determination_dates.specs.Text.{date_text}
use Rattle.wire_values.specs.Commas.{joined}
use Rattle.wire_values.specs.Words.{IsWord}
use Rattle.case_records.specs.declared.case.KeptCase.{KeptCase}
use Rattle.row_register.specs.Airfields.{airfield_row}
use Rattle.row_register.specs.Runways.{runway_key_text, runway_values}
use Rattle.row_register.specs.Desk.{desk_key, desk_row}
use Rattle.row_register.specs.declared.desk.DeskRow.TheVariants as rows
use Rattle.oe_keeper.specs.Kept.{Kept, place}
use Rattle.oe_keeper.specs.declared.change.Table.{Table}
use Rattle.desk_machine.specs.States.{case_at, entry_of}
use Rattle.desk_machine.specs.declared.entry.Entry.{Entry}
use Rattle.wire_requests.specs.Limits.{IsCase}
use Rattle.row_cases.specs.Cases.{case_key}
use Rattle.row_cases.specs.Filings.{filing_row}
use Rattle.row_receipts.specs.Receipts.{receipt_key, receipt_row}

-- one table: the row under each key
abbrev pub Found : Type 0
Found = List ℕ → Option (List ℕ)

abbrev pub found_in : Kept → Table → Found
found_in kept table key = map.get kept (place table, key)

-- each name has its row under its key, where it has one; and there are no other rows
pub record AreNamed {N : Type 0} (IsName : N → Type 0) (key : N → List ℕ) (row : N → Option (List ℕ)) (found : Found) : Type 0 where
  pub there : (n : N) → IsName n → found (key n) ≡ row n
  pub only : (text : List ℕ) → ((n : N) → IsName n → text ≢ key n) → found text ≡ None

-- ---- airfields, by name

abbrev pub field_key : List ℕ → List ℕ
field_key id = id

abbrev pub field_found : List Airfield → List ℕ → Option (List ℕ)
field_found register id = option_map airfield_row (airfield_at register id)

abbrev pub AreAirfields : List Airfield → Found → Type 0
AreAirfields register found = AreNamed IsFieldId field_key (field_found register) found

-- ---- runways, by the names of airport and runway

pub record RunwayName : Type 0 where
  pub airport : List ℕ
  pub runway : List ℕ

abbrev pub HasFieldId : RunwayName → Type 0
HasFieldId n = IsFieldId n.airport

abbrev pub runway_key : RunwayName → List ℕ
runway_key n = runway_key_text n.airport n.runway

abbrev pub runway_text : Runway → List ℕ
runway_text r = joined (runway_values r)

abbrev pub runway_of : List Airfield → RunwayName → Option Runway
runway_of register n = runway_at (runways_in (airfield_at register n.airport)) n.runway

abbrev pub runway_found : List Airfield → RunwayName → Option (List ℕ)
runway_found register n = option_map runway_text (runway_of register n)

abbrev pub AreRunways : List Airfield → Found → Type 0
AreRunways register found = AreNamed HasFieldId runway_key (runway_found register) found

-- ---- the format row of tables that are not empty, the desk's day, and each closed day

pub data DayName : Type 0 where
  Format Today : DayName
  ClosedOn : Date → DayName

abbrev pub IsDayName : DayName → Type 0
IsDayName Format = Unit {0}
IsDayName Today = Unit {0}
IsDayName (ClosedOn d) = IsLimited d

abbrev pub day_key : DayName → List ℕ
day_key Format = desk_key rows.Format
day_key Today = codes "now"
day_key (ClosedOn d) = desk_key (rows.Closed d)

-- a row that may be missing
abbrev pub text_if_shown : Bool → List ℕ → Option (List ℕ)
text_if_shown is_there row = cond is_there (Some row) None

abbrev pub day_found : Bool → Option Date → List Date → DayName → Option (List ℕ)
day_found has_format day closed Format = text_if_shown has_format (desk_row rows.Format)
day_found has_format day closed Today = option_map date_text day
day_found has_format day closed (ClosedOn d) = text_if_shown (is_closed closed (epoch_day d)) (desk_row (rows.Closed d))

abbrev pub AreDays : Bool → Option Date → List Date → Found → Type 0
AreDays has_format day closed found = AreNamed IsDayName day_key (day_found has_format day closed) found

-- ---- cases, by number

abbrev pub filing_found : List KeptCase → ℕ → Option (List ℕ)
filing_found cases number = option_map filing_row (case_at cases number)

abbrev pub AreFilings : List KeptCase → Found → Type 0
AreFilings cases found = AreNamed IsCase case_key (filing_found cases) found

-- ---- accepted requests, by caller and key

pub record ReceiptName : Type 0 where
  pub caller : List ℕ
  pub key : List ℕ

abbrev pub HasCaller : ReceiptName → Type 0
HasCaller n = IsWord n.caller

abbrev pub key_of : ReceiptName → List ℕ
key_of n = receipt_key n.caller n.key

abbrev pub entry_row : Entry → List ℕ
entry_row e = receipt_row e.number e.change e.outcome

abbrev pub receipt_found : List Entry → ReceiptName → Option (List ℕ)
receipt_found entries n = option_map entry_row (entry_of n.caller n.key entries)

abbrev pub AreReceipts : List Entry → Found → Type 0
AreReceipts entries found = AreNamed HasCaller key_of (receipt_found entries) found
