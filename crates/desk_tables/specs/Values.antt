-- The values of rows.
use Rattle.std.specs.Prelude.{◌≡◌, ℕ, List}
use Rattle.oe_keeper.specs.Kept.{Key, place}
use Rattle.oe_keeper.specs.declared.change.Table.TheVariants as tables
use Rattle.row_register.specs.Airfields.{IsAirfieldRow}
use Rattle.row_register.specs.Runways.{IsRunwayRow}
use Rattle.row_register.specs.Desk.{IsDeskRow}
use Rattle.row_cases.specs.Filings.{IsFilingRow}
use Rattle.row_receipts.specs.Receipts.{IsReceiptRow}
use Rattle.desk_tables.specs.declared.value.RowValue.{RowValue}
use Rattle.desk_tables.specs.declared.value.RowValue.TheVariants.{Airfield, Runway, Desk, Case, Request}

-- a row: the index of its table, its key, and its text
abbrev pub Row : Type 0
Row = Key × List ℕ

-- the row has this value
abbrev pub IsRowOf : Row → RowValue → Type 0
IsRowOf r (Airfield v) = (r.0.0 ≡ place tables.Airfield) × IsAirfieldRow r.0.1 r.1 v
IsRowOf r (Runway v) = (r.0.0 ≡ place tables.Runway) × IsRunwayRow r.0.1 r.1 v
IsRowOf r (Desk v) = (r.0.0 ≡ place tables.Desk) × IsDeskRow r.0.1 r.1 v
IsRowOf r (Case v) = (r.0.0 ≡ place tables.Filing) × IsFilingRow r.0.1 r.1 v
IsRowOf r (Request v) = (r.0.0 ≡ place tables.Receipt) × IsReceiptRow r.0.1 r.1 v
