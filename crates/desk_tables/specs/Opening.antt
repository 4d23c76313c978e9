-- Opening a desk from its tables, and the first bad row of tables that do not open.
use Rattle.std.specs.Prelude.{◌≡◌, ◌==◌, ℕ, Bool, ◌&&◌, ◌||◌, not, cond, List, [], ◌∷◌, length, Some, codes, slice_get, take}
use Rattle.std.specs.List.{filter, flat_map}
use Rattle.std.specs.Str.{bytes_eq}
use Rattle.std.specs.FinMap as maps
use Rattle.oe_keeper.specs.Kept.{Key, Kept, place, rows_after_changes}
use Rattle.oe_keeper.specs.declared.change.RowChange.{RowChange}
use Rattle.oe_keeper.specs.declared.change.RowChange.TheVariants.{Put}
use Rattle.oe_keeper.specs.declared.change.Table.{Table}
use Rattle.oe_keeper.specs.declared.change.Table.TheVariants as tables
use Rattle.row_register.specs.declared.desk.DeskRow.TheVariants as rows
use Rattle.row_cases.specs.Older.{renewed_row}
use Rattle.desk_machine.specs.States.{State}
use Rattle.desk_tables.specs.Changes.{put_desk}
use Rattle.desk_tables.specs.Values.{Row, IsRowOf}
use Rattle.desk_tables.specs.Parts.{Part, unread_part, IsNext, Reads, state_of}
use Rattle.desk_tables.specs.declared.layout.Layout.{Layout}
use Rattle.desk_tables.specs.declared.value.RowValue.{RowValue}

-- ---- missing rows

abbrev pub is_in : Table → Row → Bool
is_in t r = r.0.0 == place t

abbrev pub is_at : Table → List ℕ → Row → Bool
is_at t key r = is_in t r && bytes_eq r.0.1 key

-- the number of rows of this kind
abbrev pub count_of : (Row → Bool) → Kept → ℕ
count_of p kept = length (filter p (maps.entries kept))

abbrev pub format_key : List ℕ
format_key = codes "format"

abbrev pub today_key : List ℕ
today_key = codes "now"

-- a missing row is added without a text, which makes it a bad row
abbrev pub put_wanting : List ℕ → Kept → Kept
put_wanting key kept = maps.insert kept (place tables.Desk, key) []

-- tables that are not empty have a format row
abbrev pub with_format : Kept → Kept
with_format kept = cond (maps.len kept == 0) kept (cond (count_of (is_at tables.Desk format_key) kept == 0) (put_wanting format_key kept) kept)

-- tables with a case have a row of the desk's day
abbrev pub with_today : Kept → Kept
with_today kept = cond (count_of (is_in tables.Filing) kept == 0) kept (cond (count_of (is_at tables.Desk today_key) kept == 0) (put_wanting today_key kept) kept)

abbrev pub with_wanting : Kept → Kept
with_wanting kept = with_today (with_format kept)

-- ---- tables of older formats

-- the format row of tables from before there were planned approaches
abbrev pub first_format : List ℕ
first_format = codes "1"

-- and of those from before there were revisions
abbrev pub second_format : List ℕ
second_format = codes "2"

abbrev pub is_first_row : Row → Bool
is_first_row r = is_at tables.Desk format_key r && bytes_eq r.1 first_format

abbrev pub is_older_row : Row → Bool
is_older_row r = is_at tables.Desk format_key r && (bytes_eq r.1 first_format || bytes_eq r.1 second_format)

-- the tables are of the format from before there were planned approaches
abbrev pub is_first : Kept → Bool
is_first kept = not (count_of is_first_row kept == 0)

-- the tables are of a format from before there were revisions
abbrev pub is_older : Kept → Bool
is_older kept = not (count_of is_older_row kept == 0)

-- the row of a case that has a determination, with no revisions
abbrev pub renewed_filing : Row → List RowChange
renewed_filing r = cond (is_in tables.Filing r && not (bytes_eq (renewed_row r.1) r.1)) (Put tables.Filing r.0.1 (renewed_row r.1) ∷ []) []

-- the changes that bring tables of an older format to that of today; none for all others
abbrev pub renewal : Kept → List RowChange
renewal kept = cond (is_older kept) (put_desk rows.Format ∷ flat_map renewed_filing (maps.entries kept)) []

-- the same tables in the format of today
abbrev pub renewed : Kept → Kept
renewed kept = rows_after_changes kept (renewal kept)

-- ---- the desk that the tables open as

abbrev pub is_lone : Kept → Bool
is_lone kept = maps.len kept == 1

abbrev pub layout_of : Bool → Kept → Layout
layout_of is_old kept = record { is_lone = is_lone kept; is_old = is_old }

-- nothing was read of these tables
abbrev pub unread_of : Kept → Part
unread_of kept = unread_part (count_of (is_in tables.Receipt) kept)

-- all rows are read, of tables that were of the first format or not
abbrev pub ReadsAll : Bool → Kept → Part → Type 0
ReadsAll is_old kept q = Reads (layout_of is_old kept) (unread_of kept) (maps.entries kept) q

-- the tables open as a desk in this state; those of an older format as the same tables in the format of today, where nothing is planned in those
-- of the first
pub record Opens (kept : Kept) (s : State) : Type 0 where
  pub part : Part
  pub reads : ReadsAll (is_first kept) (with_wanting (renewed kept)) part
  pub state : s ≡ state_of part

-- the row at this index is bad: those before it are read, and it has no value that may come after them
pub record IsBadAt (is_old : Bool) (kept : Kept) (i : ℕ) (k : Key) : Type 0 where
  pub part : Part
  pub text : List ℕ
  pub row : slice_get (maps.entries kept) i ≡ Some (k, text)
  pub reads : Reads (layout_of is_old kept) (unread_of kept) (take i (maps.entries kept)) part
  pub bad : (v : RowValue) → IsRowOf (k, text) v → IsNext (layout_of is_old kept) part v → ⊥

-- the first bad or missing row of the tables has this key
pub record IsFirstBad (kept : Kept) (k : Key) : Type 0 where
  pub place_of : ℕ
  pub at : IsBadAt (is_first kept) (with_wanting (renewed kept)) place_of k
