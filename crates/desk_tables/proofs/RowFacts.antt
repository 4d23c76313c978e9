-- What a row tells is one value, of its own table, with dates within the limit.
use Rattle.std.proofs.Common.{◌≡◌, ap, sym, ◌∙◌, subst, arith, ℕ, List, Option, Some, None, Result, Ok, Err, IfSome, IfErr}
use Rattle.jiff_core.specs.declared.civil.date.Date.{Date}
use Rattle.determination_dates.specs.Days.{IsLimited}
use Rattle.determination_dates.specs.Effects.{IsKept}
use Rattle.determination_dates.specs.declared.determination.Record.{Record}
use Rattle.wire_values.specs.Words.{IsAnyLimited}
use Rattle.airfields.specs.declared.airfield.Airfield.{Airfield as Field}
use Rattle.case_records.specs.declared.case.KeptList.{KeptList}
use Rattle.row_register.specs.Airfields.{IsAirfieldRow}
use Rattle.row_register.specs.Runways.{IsRunwayRow}
use Rattle.row_register.specs.Desk.{IsDeskRow}
use Rattle.row_register.specs.declared.desk.DeskRow.{DeskRow}
use Rattle.row_register.specs.declared.runway.RunwayRow.{RunwayRow}
use Rattle.row_cases.specs.Filings.{IsFilingRow, IsPlainRecord, IsJudged}
use Rattle.row_cases.specs.declared.filing.FilingRow.{FilingRow}
use Rattle.row_receipts.specs.Receipts.{IsReceiptRow}
use Rattle.row_receipts.specs.declared.receipt.ReceiptRow.{ReceiptRow}
use Rattle.desk_tables.specs.Values.{Row, IsRowOf}
use Rattle.desk_tables.specs.Parts.{IsSoundValue}
use Rattle.desk_tables.specs.declared.unread.Untaken.{Untaken}
use Rattle.desk_tables.specs.declared.unread.Untaken.TheVariants.{Bad}
use Rattle.desk_tables.specs.declared.value.RowValue.{RowValue}
use Rattle.desk_tables.specs.declared.value.RowValue.TheVariants.{Airfield, Runway, Desk, Case, Request}

-- ---- no row of one table is one of another

module _ (key row : List ℕ) where
  pub no_airfield : ((v : Field) → IsAirfieldRow key row v → ⊥) → (v : RowValue) → IsRowOf ((0, key), row) v → ⊥
  no_airfield none (Airfield v) h = none v h.1
  no_airfield none (Runway v) h = omega (arith, h.0)
  no_airfield none (Desk v) h = omega (arith, h.0)
  no_airfield none (Case v) h = omega (arith, h.0)
  no_airfield none (Request v) h = omega (arith, h.0)

  pub no_runway : ((v : RunwayRow) → IsRunwayRow key row v → ⊥) → (v : RowValue) → IsRowOf ((1, key), row) v → ⊥
  no_runway none (Airfield v) h = omega (arith, h.0)
  no_runway none (Runway v) h = none v h.1
  no_runway none (Desk v) h = omega (arith, h.0)
  no_runway none (Case v) h = omega (arith, h.0)
  no_runway none (Request v) h = omega (arith, h.0)

  pub no_desk : ((v : DeskRow) → IsDeskRow key row v → ⊥) → (v : RowValue) → IsRowOf ((2, key), row) v → ⊥
  no_desk none (Airfield v) h = omega (arith, h.0)
  no_desk none (Runway v) h = omega (arith, h.0)
  no_desk none (Desk v) h = none v h.1
  no_desk none (Case v) h = omega (arith, h.0)
  no_desk none (Request v) h = omega (arith, h.0)

  pub no_case : ((v : FilingRow) → IsFilingRow key row v → ⊥) → (v : RowValue) → IsRowOf ((3, key), row) v → ⊥
  no_case none (Airfield v) h = omega (arith, h.0)
  no_case none (Runway v) h = omega (arith, h.0)
  no_case none (Desk v) h = omega (arith, h.0)
  no_case none (Case v) h = none v h.1
  no_case none (Request v) h = omega (arith, h.0)

  pub no_request : ((v : ReceiptRow) → IsReceiptRow key row v → ⊥) → (v : RowValue) → IsRowOf ((4, key), row) v → ⊥
  no_request none (Airfield v) h = omega (arith, h.0)
  no_request none (Runway v) h = omega (arith, h.0)
  no_request none (Desk v) h = omega (arith, h.0)
  no_request none (Case v) h = omega (arith, h.0)
  no_request none (Request v) h = none v h.1

-- ---- one value

-- the rows of each table have one value
pub record HaveOneValue : Type 0 where
  pub airfields : (key row : List ℕ) (a b : Field) → IsAirfieldRow key row a → IsAirfieldRow key row b → a ≡ b
  pub runways : (key row : List ℕ) (a b : RunwayRow) → IsRunwayRow key row a → IsRunwayRow key row b → a ≡ b
  pub days : (key row : List ℕ) (a b : DeskRow) → IsDeskRow key row a → IsDeskRow key row b → a ≡ b
  pub cases : (key row : List ℕ) (a b : FilingRow) → IsFilingRow key row a → IsFilingRow key row b → a ≡ b
  pub requests : (key row : List ℕ) (a b : ReceiptRow) → IsReceiptRow key row a → IsReceiptRow key row b → a ≡ b

module _ (one : HaveOneValue) (r : Row) where
  apart : {P : Type 0} (m n : ℕ) → r.0.0 ≡ m → r.0.0 ≡ n → (m ≡ n → ⊥) → P
  apart m n h k differ = absurd (differ (sym h ∙ k))

  pub one_value : (v w : RowValue) → IsRowOf r v → IsRowOf r w → v ≡ w
  one_value (Airfield v) (Airfield w) h k = ap Airfield (one.airfields r.0.1 r.1 v w h.1 k.1)
  one_value (Runway v) (Runway w) h k = ap Runway (one.runways r.0.1 r.1 v w h.1 k.1)
  one_value (Desk v) (Desk w) h k = ap Desk (one.days r.0.1 r.1 v w h.1 k.1)
  one_value (Case v) (Case w) h k = ap Case (one.cases r.0.1 r.1 v w h.1 k.1)
  one_value (Request v) (Request w) h k = ap Request (one.requests r.0.1 r.1 v w h.1 k.1)
  one_value (Airfield v) (Runway w) h k = apart 0 1 h.0 k.0 (λ e. omega (arith, e))
  one_value (Airfield v) (Desk w) h k = apart 0 2 h.0 k.0 (λ e. omega (arith, e))
  one_value (Airfield v) (Case w) h k = apart 0 3 h.0 k.0 (λ e. omega (arith, e))
  one_value (Airfield v) (Request w) h k = apart 0 4 h.0 k.0 (λ e. omega (arith, e))
  one_value (Runway v) (Airfield w) h k = apart 1 0 h.0 k.0 (λ e. omega (arith, e))
  one_value (Runway v) (Desk w) h k = apart 1 2 h.0 k.0 (λ e. omega (arith, e))
  one_value (Runway v) (Case w) h k = apart 1 3 h.0 k.0 (λ e. omega (arith, e))
  one_value (Runway v) (Request w) h k = apart 1 4 h.0 k.0 (λ e. omega (arith, e))
  one_value (Desk v) (Airfield w) h k = apart 2 0 h.0 k.0 (λ e. omega (arith, e))
  one_value (Desk v) (Runway w) h k = apart 2 1 h.0 k.0 (λ e. omega (arith, e))
  one_value (Desk v) (Case w) h k = apart 2 3 h.0 k.0 (λ e. omega (arith, e))
  one_value (Desk v) (Request w) h k = apart 2 4 h.0 k.0 (λ e. omega (arith, e))
  one_value (Case v) (Airfield w) h k = apart 3 0 h.0 k.0 (λ e. omega (arith, e))
  one_value (Case v) (Runway w) h k = apart 3 1 h.0 k.0 (λ e. omega (arith, e))
  one_value (Case v) (Desk w) h k = apart 3 2 h.0 k.0 (λ e. omega (arith, e))
  one_value (Case v) (Request w) h k = apart 3 4 h.0 k.0 (λ e. omega (arith, e))
  one_value (Request v) (Airfield w) h k = apart 4 0 h.0 k.0 (λ e. omega (arith, e))
  one_value (Request v) (Runway w) h k = apart 4 1 h.0 k.0 (λ e. omega (arith, e))
  one_value (Request v) (Desk w) h k = apart 4 2 h.0 k.0 (λ e. omega (arith, e))
  one_value (Request v) (Case w) h k = apart 4 3 h.0 k.0 (λ e. omega (arith, e))

-- what is so of the value of a row is so of each value that it has
pub bad_value : (one : HaveOneValue) (r : Row) (value : RowValue) (P : RowValue → Type 0) (result : Result (Unit {0}) Untaken) → IsRowOf r value
    → IfErr result (λ why. why ≡ Bad → P value → ⊥) → IfErr result (λ why. why ≡ Bad → (v : RowValue) → IsRowOf r v → P v → ⊥)
bad_value one r value P (Ok x) is h = cc
bad_value one r value P (Err why) is h = λ e v k n. h e (subst P (one_value one r v value k is) n)

-- ---- dates within the limit

any_limited : (o : Option Date) → IsAnyLimited o → IfSome o IsLimited
any_limited None h = cc
any_limited (Some d) h = h

kept_record : (r : Record) → IsPlainRecord r → IsKept r
kept_record r h = record {
  issued = h.issued;
  deadline = any_limited r.deadline h.deadline;
  ordinary = h.ordinary;
  affirmed = any_limited r.affirmed h.affirmed;
  set_expiry = any_limited r.set_expiry h.set_expiry;
}

kept_judged : (o : Option Record) (kept : Option KeptList) → IsJudged o kept → IfSome o IsKept
kept_judged None kept h = cc
kept_judged (Some r) None h = absurd h
kept_judged (Some r) (Some kept) h = kept_record r h.0

pub sound_value : (r : Row) (v : RowValue) → IsRowOf r v → IsSoundValue v
sound_value r (Airfield v) h = cc
sound_value r (Runway v) h = cc
sound_value r (Desk v) h = h.1.valid
sound_value r (Case v) h = record { received = h.1.plain.received; determination = kept_judged v.case.life.determination v.case.list h.1.plain.judged }
sound_value r (Request v) h = cc
