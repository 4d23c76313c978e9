use Rattle.std.proofs.Common.{sym, ap, ◌∙◌}
use Rattle.std.specs.FinMap as maps
use Rattle.oe_sqlite.proofs.Reading.{was_new}
use Rattle.oe_sqlite.proofs.rows.add.Goals as goal

pub returns : goal.returns
returns c =
    let added = c.in_ok-change-2.ensures.ok ∙ c.in_ok-change.ensures c.args.tables.now in
    (was_new c.args.tables.now _ _ (λ e. c.if-len-before.false (c.len.ensures ∙ ap maps.len added ∙ e ∙ sym c.len-before.ensures)), added)
