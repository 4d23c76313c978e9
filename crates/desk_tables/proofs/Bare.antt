-- A desk that holds nothing has no rows.
use Rattle.std.proofs.Common.{◌≡◌, refl, ◌∙◌, ℕ, List, [], ◌==◌, Option, None, Bool, true, false, cond, slice_get}
use Rattle.std.specs.Option.{option_map}
use Rattle.std.specs.FinMap as maps
use Rattle.oe_keeper.specs.Kept.{Kept, key_cmp}
use Rattle.desk_machine.specs.States.{empty}
use Rattle.row_cases.specs.Filings.{filing_row}
use Rattle.desk_tables.specs.Rows.{AreRows}
use Rattle.desk_tables.specs.Tables.{DayName, Format, Today, ClosedOn, day_found}

abbrev none : Option (List ℕ)
none = None

no_day : (n : DayName) → none ≡ day_found false None [] n
no_day Format = refl
no_day Today = refl
no_day (ClosedOn d) = refl

no_case : (b : Bool) → none ≡ option_map filing_row (cond b None (slice_get [] 0))
no_case true = refl
no_case false = refl

abbrev no_rows : Kept
no_rows = maps.empty

no_row : (t : ℕ) (key : List ℕ) → maps.get no_rows (t, key) ≡ None
no_row t key = maps.get-empty key_cmp (t, key)

pub bare_rows : AreRows empty maps.empty
bare_rows = record {
  airfields = record { there = λ n h. no_row _ _; only = λ text h. no_row _ _ };
  runways = record { there = λ n h. no_row _ _; only = λ text h. no_row _ _ };
  days = record { there = λ n h. no_row _ _ ∙ no_day n; only = λ text h. no_row _ _ };
  filings = record { there = λ n h. no_row _ _ ∙ no_case (n == 0); only = λ text h. no_row _ _ };
  receipts = record { there = λ n h. no_row _ _; only = λ text h. no_row _ _ };
  only = λ t key h. no_row t key;
}
