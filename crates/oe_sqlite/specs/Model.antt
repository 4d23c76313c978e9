-- The rows of the table as one map.
use Rattle.std.specs.Prelude.{◌≡◌, ℕ, ℤ, pos, negsuc, List, [], ◌∷◌, map}
use Rattle.sqlite_trees.specs.Tree.{Trees, IsTable}
use Rattle.sqlite_catalog.specs.Listing.{IsSound}
use Rattle.sqlite_rules.specs.Lists.{Has}
use Rattle.std.specs.Prelude.{IsTrue}
use Rattle.sqlite.specs.State.{State, HasCleanDisk}
use Rattle.oe_sqlite.specs.Shape.{kept_schema}
use Rattle.std.specs.FinMap as map
use Rattle.oe_keeper.specs.Kept.{Key, Kept}
use Rattle.sqlite_value.specs.declared.value.Value.{Value}
use Rattle.sqlite_value.specs.declared.value.Value.TheVariants.{Null, Int, Real, Text, Blob}
use Rattle.sqlite_value.specs.Order.{Row, column, bytes}

abbrev pub number : Value → ℕ
number (Int (pos n)) = n
number (Int (negsuc n)) = 0
number Null = 0
number (Real x) = 0
number (Text t) = 0
number (Blob b) = 0

abbrev pub key_in : Row → Key
key_in row = (number (column row 1), bytes (column row 2))

abbrev pub pair_in : Row → Key × List ℕ
pair_in row = (key_in row, bytes (column row 3))

-- a row of the query, as the map holds it
abbrev pub pair_shown : Row → Key × List ℕ
pair_shown row = ((number (column row 0), bytes (column row 1)), bytes (column row 2))

-- where a key occurs twice, which no sound table has, the first row counts
abbrev pub tables_in : List Row → Kept
tables_in rows = map.from_entries (map pair_in rows)

-- no two rows have the same key
abbrev pub IsKeyed : List Row → Type 0
IsKeyed rows = (x y : Row) → Has rows x → Has rows y → key_in x ≡ key_in y → x ≡ y

-- a row that the table may hold
pub record IsEntry (row : Row) : Type 0 where
  pub id : ℤ
  pub table : ℕ
  pub key : List ℕ
  pub text : List ℕ
  pub is : row ≡ Int id ∷ Int (pos table) ∷ Text key ∷ Text text ∷ []

pub record AreKept (rows : List Row) : Type 0 where
  pub rising : IsTable rows
  pub entries : (x : Row) → Has rows x → IsEntry x
  pub keyed : IsKeyed rows

-- the connection sees the one table, with these rows
pub record Holds (s : State) (tables : Kept) : Type 0 where
  pub schema : s.now.schema ≡ kept_schema
  pub rows : AreKept (s.now.trees 0)
  pub are : tables_in (s.now.trees 0) ≡ tables

-- the trees hold the one table and obey its schema, and these are its rows
pub record AreRows (db : Trees) (rows : Kept) : Type 0 where
  pub sound : IsSound kept_schema db
  pub are : tables_in (db 0) ≡ rows

-- the known rows of a store, as long as its disk returned what was written
abbrev pub TellsIn : State → Kept → Type 0
TellsIn s rows = HasCleanDisk s × IsTrue s.is_open × Holds s rows

-- it has some known rows whenever it is clean and open
abbrev pub IsHeld : State → Type 0
IsHeld s = HasCleanDisk s → IsTrue s.is_open → (rows : Kept) × Holds s rows

-- rows that are known before and after are the same
abbrev pub StaysIn : State → State → Type 0
StaysIn old new = (before now : Kept) → TellsIn old before → TellsIn new now → now ≡ before

abbrev pub StaysSilentIn : State → State → Type 0
StaysSilentIn old new = (now : Kept) → TellsIn new now → (before : Kept) × TellsIn old before
