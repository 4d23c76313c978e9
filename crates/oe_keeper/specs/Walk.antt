-- For proofs alone: a row with its table and key, as the map holds it.
use Rattle.std.specs.Prelude.{List, ℕ}
use Rattle.oe_keeper.specs.Kept.{Key, place}
use Rattle.oe_keeper.specs.declared.rows.Entry.{Entry}

abbrev pub pair_of : Entry → Key × List ℕ
pair_of entry = ((place entry.table, entry.key), entry.row)

abbrev pub key_of : Entry → Key
key_of entry = (pair_of entry).0
