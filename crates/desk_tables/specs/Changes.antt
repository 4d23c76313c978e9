-- The row changes for an accepted request.
use Rattle.std.specs.Prelude.{ℕ, ◌+◌, ◌<◌, ◌≤◌, ◌≡◌, List, [], ◌∷◌, ◌++◌, map, length, Option, Some, None, cond}
use Rattle.airfields.specs.Names.{IsFieldId}
use Rattle.airfields.specs.declared.runway.Runway.{Runway}
use Rattle.airfields.specs.declared.airfield.Airfield.{Airfield}
use Rattle.airfields.specs.declared.airfield.Airfield.TheVariants.{Airport as AnAirport, Heliport as AHeliport}
use Rattle.airport_register.specs.Amendments.{airfield_at, amended_id, runways_in, put_airport}
use Rattle.airport_register.specs.declared.amendment.Amendment.{Amendment}
use Rattle.airport_register.specs.declared.amendment.Amendment.TheVariants.{PutAirport, PutRunway, DropRunway, PutHeliport, Drop}
use Rattle.case_records.specs.declared.case.KeptCase.{KeptCase}
use Rattle.case_acts.specs.Cases.{IsSoundStep}
use Rattle.case_acts.specs.declared.effect.Step.{Step}
use Rattle.case_acts.specs.declared.effect.Step.TheVariants as steps
use Rattle.row_register.specs.Airfields.{airfield_key, airfield_row}
use Rattle.row_register.specs.Runways.{runway_key_text}
use Rattle.row_register.specs.Desk.{desk_key, desk_row}
use Rattle.row_register.specs.declared.desk.DeskRow.{DeskRow}
use Rattle.row_register.specs.declared.desk.DeskRow.TheVariants as rows
use Rattle.oe_keeper.specs.declared.change.Table.TheVariants as tables
use Rattle.oe_keeper.specs.declared.change.RowChange.{RowChange}
use Rattle.oe_keeper.specs.declared.change.RowChange.TheVariants.{Put, Remove}
use Rattle.wire_values.specs.Words.{IsWord}
use Rattle.desk_machine.specs.States.{State, case_at, entry_of, issued_case}
use Rattle.desk_machine.specs.Machine.{register_rule}
use Rattle.desk_machine.specs.declared.entry.Entry.{Entry}
use Rattle.desk_machine.specs.declared.entry.TheConstants.{MOST_CASES}
use Rattle.row_cases.specs.Cases.{case_key}
use Rattle.row_cases.specs.Filings.{filing_row}
use Rattle.row_receipts.specs.Receipts.{receipt_key}
use Rattle.desk_tables.specs.Tables.{runway_text, entry_row}
use Rattle.desk_tables.specs.Rows.{is_bare}

abbrev pub put_airfield : Airfield → RowChange
put_airfield field = Put tables.Airfield (airfield_key field) (airfield_row field)

abbrev pub put_runway_row : List ℕ → Runway → RowChange
put_runway_row id r = Put tables.Runway (runway_key_text id r.name) (runway_text r)

abbrev pub remove_runway : List ℕ → List ℕ → RowChange
remove_runway id name = Remove tables.Runway (runway_key_text id name)

abbrev pub put_desk : DeskRow → RowChange
put_desk v = Put tables.Desk (desk_key v) (desk_row v)

abbrev pub put_filing : ℕ → KeptCase → RowChange
put_filing number c = Put tables.Filing (case_key number) (filing_row c)

abbrev pub put_receipt : Entry → RowChange
put_receipt e = Put tables.Receipt (receipt_key e.change.caller e.change.key) (entry_row e)

-- an airport is stored without its runways, which have rows of their own; an airfield is deleted with all of its runways
abbrev pub amendment_changes : List Airfield → Amendment → List RowChange
amendment_changes register (PutAirport id category arp elevation) = put_airfield (AnAirport (put_airport register id category arp elevation)) ∷ []
amendment_changes register (PutRunway id r) = put_runway_row id r ∷ []
amendment_changes register (DropRunway id name) = remove_runway id name ∷ []
amendment_changes register (PutHeliport h) = put_airfield (AHeliport h) ∷ []
amendment_changes register (Drop id) = Remove tables.Airfield id ∷ map (λ (r : Runway). remove_runway id r.name) (runways_in (airfield_at register id))

-- an existing case is stored with its change
abbrev pub case_changes : ℕ → (KeptCase → KeptCase) → Option KeptCase → List RowChange
case_changes number f None = []
case_changes number f (Some c) = put_filing number (f c) ∷ []

-- the row changes of a step, without the format row and the request's own row
abbrev pub step_changes : State → Step → List RowChange
step_changes s (steps.Amended a) = amendment_changes s.register a
step_changes s (steps.DaySet d) = put_desk (rows.Now d) ∷ []
step_changes s (steps.DayClosed d) = put_desk (rows.Closed d) ∷ []
step_changes s (steps.CaseFiled c) = put_filing (length s.cases + 1) c ∷ []
step_changes s (steps.FormPut number day) = case_changes number (λ c. record c { form = Some day }) (case_at s.cases number)
step_changes s (steps.LifePut number life) = case_changes number (λ c. record c { life = life }) (case_at s.cases number)
step_changes s (steps.Issued number site life list) = case_changes number (issued_case site life list) (case_at s.cases number)

-- all of them, in order: first the format row, where the tables are empty
abbrev pub changes : State → Entry → Step → List RowChange
changes s e step = cond (is_bare s) (put_desk rows.Format ∷ []) [] ++ (step_changes s step ++ put_receipt e ∷ [])

-- ---- for proofs alone

-- the name of the airfield is a valid name
abbrev pub IsNamed : Step → Type 0
IsNamed (steps.Amended a) = IsFieldId (amended_id a)
IsNamed (steps.DaySet d) = Unit {0}
IsNamed (steps.DayClosed d) = Unit {0}
IsNamed (steps.CaseFiled c) = Unit {0}
IsNamed (steps.FormPut number day) = Unit {0}
IsNamed (steps.LifePut number life) = Unit {0}
IsNamed (steps.Issued number site life list) = Unit {0}

-- there is room for one more case
abbrev pub HasRoom : List KeptCase → Step → Type 0
HasRoom cases (steps.Amended a) = Unit {0}
HasRoom cases (steps.DaySet d) = Unit {0}
HasRoom cases (steps.DayClosed d) = Unit {0}
HasRoom cases (steps.CaseFiled c) = length cases < MOST_CASES
HasRoom cases (steps.FormPut number day) = Unit {0}
HasRoom cases (steps.LifePut number life) = Unit {0}
HasRoom cases (steps.Issued number site life list) = Unit {0}

-- the entry and the step of a request that was accepted in this state
pub record Fits (s : State) (e : Entry) (step : Step) : Type 0 where
  pub named : IsNamed step
  pub sound : IsSoundStep step
  pub room : HasRoom s.cases step
  pub most : length s.cases ≤ MOST_CASES
  pub allowed : register_rule s.register step ≡ None
  pub caller : IsWord e.change.caller
  pub new : entry_of e.change.caller e.change.key s.entries ≡ None
