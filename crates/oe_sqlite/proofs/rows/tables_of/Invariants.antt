use Rattle.std.proofs.Common.{◌≡◌, map, take}
use Rattle.std.specs.FinMap as maps
use Rattle.oe_sqlite.specs.Model.{pair_shown}
use Rattle.oe_sqlite.proofs.rows.tables_of.Given as goal

abbrev pub invariant-rows : goal.invariant-rows
invariant-rows l = l.tables ≡ maps.from_entries (map pair_shown (take l.row-index l.rows))
