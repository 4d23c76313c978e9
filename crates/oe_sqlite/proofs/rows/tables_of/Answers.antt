use Rattle.std.proofs.Common.{sym, ap, ◌∙◌, map, take}
use Rattle.std.specs.FinMap as maps
use Rattle.oe_sqlite.specs.Model.{pair_shown}
use Rattle.oe_sqlite.proofs.Reading.{one_more, walked}
use Rattle.oe_sqlite.proofs.rows.tables_of.Goals as goal

pub rows-preserved : goal.rows-preserved
rows-preserved c =
    one_more c.rows.tables c.add.new.tables (map pair_shown (take c.rows.row-index c.args.rows.now)) (pair_shown c.row-item.result) c.rows.invariant c.in_ok-add.ensures.0 c.in_ok-add.ensures.1
    ∙ ap maps.from_entries (walked c.args.rows.now c.rows.row-index c.row-item.result c.rows-test.true (sym c.row-item.is))
