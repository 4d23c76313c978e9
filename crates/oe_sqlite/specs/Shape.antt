-- The one table of the store, and the SQL texts that run over it.
use Rattle.std.specs.Prelude.{true, false, [], ◌∷◌, None, codes, List, ℕ, pos}
use Rattle.sqlite_value.specs.declared.value.Value.TheVariants.{Null, Int}
use Rattle.sqlite_value.specs.declared.keys.Order.{Order}
use Rattle.sqlite_value.specs.declared.keys.Collation.TheVariants.{Binary}
use Rattle.sqlite_sql.specs.Term.{Term, lit, col, op2}
use Rattle.sqlite_sql.specs.declared.ops.BinaryOp.TheVariants.{Compare, And}
use Rattle.sqlite_sql.specs.declared.ops.CompareOp.TheVariants.{Ge, Le}
use Rattle.sqlite_schema.specs.declared.schema.Table.{Table}
use Rattle.sqlite_schema.specs.declared.schema.Index.{Index}
use Rattle.sqlite_schema.specs.declared.schema.Schema.{Schema}
use Rattle.sqlite_schema.specs.declared.schema.Kind.TheVariants.{Integer, Text}

abbrev pub create_text : List ℕ
create_text = codes "CREATE TABLE IF NOT EXISTS kept (t INTEGER NOT NULL CHECK (t >= 0 AND t <= 4), k TEXT NOT NULL, v TEXT NOT NULL, PRIMARY KEY (t, k)) STRICT"

abbrev pub select_text : List ℕ
select_text = codes "SELECT t, k, v FROM kept ORDER BY t, k"

abbrev pub put_text : List ℕ
put_text = codes "INSERT INTO kept (t, k, v) VALUES (?1, ?2, ?3) ON CONFLICT (t, k) DO UPDATE SET v = excluded.v"

abbrev pub remove_text : List ℕ
remove_text = codes "DELETE FROM kept WHERE t = ?1 AND k = ?2"

abbrev pub by_bytes : Order
by_bytes = record { digits = 0 }

-- the table's index is from 0 to 4
abbrev pub kept_check : Term
kept_check = op2 And (op2 (Compare Ge Binary) (col 1 1) (lit (Int (pos 0)))) (op2 (Compare Le Binary) (col 1 1) (lit (Int (pos 4))))

abbrev pub kept : Table
kept = record {
  name = codes "kept";
  tree = 0;
  columns = (record { name = codes "t"; kind = Integer; is_strict = true; not_null = true; default = Null; collation = Binary })
      ∷ (record { name = codes "k"; kind = Text; is_strict = true; not_null = true; default = Null; collation = Binary })
      ∷ (record { name = codes "v"; kind = Text; is_strict = true; not_null = true; default = Null; collation = Binary }) ∷ [];
  key = None;
  primary = 1 ∷ 2 ∷ [];
  uniques = (1 ∷ 2 ∷ []) ∷ [];
  orders = by_bytes ∷ [];
  checks = kept_check ∷ [];
  references = [];
  computed = [];
  stamps = record { places = []; terms = []; formats = [] };
  is_counted = false;
}

abbrev pub kept_index : Index
kept_index = record { name = codes "sqlite_autoindex_kept_1"; tree = 1; table = 0; columns = 1 ∷ 2 ∷ []; order = by_bytes; is_unique = true }

abbrev pub no_schema : Schema
no_schema = record { tables = []; indexes = []; views = [] }

abbrev pub kept_schema : Schema
kept_schema = record { tables = kept ∷ []; indexes = kept_index ∷ []; views = [] }
