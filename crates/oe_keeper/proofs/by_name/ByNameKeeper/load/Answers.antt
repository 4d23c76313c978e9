use Rattle.std.proofs.Common.{option_copied, sym, ◌∙◌}
use Rattle.oe_keeper.proofs.Silent.{load_first, load_second}
use Rattle.oe_keeper.proofs.Using.{always_err}
use Rattle.oe_keeper.proofs.by_name.ByNameKeeper.load.Goals as goal

pub returns-in_err-tables-clause-silent : goal.returns-in_err-tables-clause-silent
returns-in_err-tables-clause-silent g c =
    let k = c.args.self.now in
    always_err c.from_residual.result (load_second g.A.Keeper.Tells g.B.Keeper.Tells k.first k.second c.load.new.self k.chosen (option_copied c.args.place) (sym c.is_second.ensures ∙ c.if-is_second.true) c.in_err-tables.ensures.silent)

pub returns-in_err-tables-2-clause-silent : goal.returns-in_err-tables-2-clause-silent
returns-in_err-tables-2-clause-silent g c =
    let k = c.args.self.now in
    always_err c.from_residual-in_err-tables-2.result (load_first g.A.Keeper.Tells g.B.Keeper.Tells k.first c.load-else-is_second.new.self k.second k.chosen (option_copied c.args.place) (sym c.is_second.ensures ∙ c.if-is_second.false) c.in_err-tables-2.ensures.silent)
