-- The rows of the five tables, as one map from a table's index and a key's bytes to a row's bytes.
use Rattle.std.specs.Prelude.{ℕ, List, fold}
use Rattle.std.specs.declared.cmp.Ordering.{Ordering}
use Rattle.std.specs.Ordering.{nat_cmp, on, then_cmp}
use Rattle.std.specs.Cmp.{IsTotalOrder, then_total, on_total, nat_cmp_total}
use Rattle.std.specs.Cmp.Lexicographic.{slice_cmp, nat_list_cmp_total}
use Rattle.std.specs.FinMap as map
use Rattle.std.specs.Coded.{Coded, coded×, coded_ℕ, coded_list}
use Rattle.oe_keeper.specs.declared.change.Table.{Table}
use Rattle.oe_keeper.specs.declared.change.Table.TheVariants.{Airfield, Runway, Desk, Filing, Receipt}
use Rattle.oe_keeper.specs.declared.change.RowChange.{RowChange}
use Rattle.oe_keeper.specs.declared.change.RowChange.TheVariants.{Put, Remove}

abbrev pub place : Table → ℕ
place Airfield = 0
place Runway = 1
place Desk = 2
place Filing = 3
place Receipt = 4

-- a table's index, and a key's bytes
abbrev pub Key : Type 0
Key = ℕ × List ℕ

-- order by table, then by the key's bytes
abbrev pub key_cmp : Key → Key → Ordering
key_cmp = then_cmp (on (λ k. k.0) nat_cmp) (on (λ k. k.1) (slice_cmp nat_cmp))

pub key_cmp_total : IsTotalOrder key_cmp
key_cmp_total = then_total (on_total (λ k. k.0) nat_cmp_total) (on_total (λ k. k.1) nat_list_cmp_total)

-- the rows of all five tables
abbrev pub Kept : Type 0
Kept = map.FinMap key_cmp (List ℕ)

abbrev pub kept_code : Coded Kept
kept_code = map.code (coded× coded_ℕ (coded_list coded_ℕ)) (coded_list coded_ℕ)

-- the rows after a change
abbrev pub rows_after_change : Kept → RowChange → Kept
rows_after_change rows (Put table key row) = map.insert rows (place table, key) row
rows_after_change rows (Remove table key) = map.remove rows (place table, key)

-- the rows after a list of changes, one after another
abbrev pub rows_after_changes : Kept → List RowChange → Kept
rows_after_changes = fold rows_after_change
