-- The tables of a desk in an older format.
use Rattle.std.specs.Prelude.{◌≡◌, ◌≢◌, ℕ, List, Some, None, All}
use Rattle.std.specs.FinMap as maps
use Rattle.oe_keeper.specs.Kept.{Key, Kept, place}
use Rattle.oe_keeper.specs.declared.change.Table.TheVariants as tables
use Rattle.case_records.specs.declared.case.KeptCase.{KeptCase}
use Rattle.row_cases.specs.Cases.{case_key}
use Rattle.row_cases.specs.Older.{IsUnrevised, older_filing_row}
use Rattle.desk_machine.specs.States.{State, case_at}
use Rattle.desk_tables.specs.Opening.{format_key}

-- no determination was revised
abbrev pub RevisesNothing : State → Type 0
RevisesNothing s = All IsUnrevised s.cases

-- the same rows, with this row of the format and with the rows of cases from before there were revisions
pub record IsAged (version : List ℕ) (s : State) (kept aged : Kept) : Type 0 where
  pub format : maps.get aged (place tables.Desk, format_key) ≡ Some version
  pub cases : (n : ℕ) (c : KeptCase) → case_at s.cases n ≡ Some c → maps.get aged (place tables.Filing, case_key n) ≡ Some (older_filing_row c)
  pub no_case : (key : List ℕ) → maps.get kept (place tables.Filing, key) ≡ None → maps.get aged (place tables.Filing, key) ≡ None
  pub others : (k : Key) → k.0 ≢ place tables.Filing → k ≢ (place tables.Desk, format_key) → maps.get aged k ≡ maps.get kept k
