use Rattle.std.proofs.Common.{true}
use Rattle.oe_keeper.proofs.Using.{loaded_where, silent_where, always_err}
use Rattle.oe_keeper.proofs.placed.PlacedKeeperKeeper.load.Goals as goal

pub returns-in_err-tables-clause-silent : goal.returns-in_err-tables-clause-silent
returns-in_err-tables-clause-silent g c = always_err c.from_residual.result (silent_where g.K.Keeper.Tells c.args.self.now.is_used c.args.self.now.keeper c.load.new.self c.in_err-tables.ensures.silent)

pub returns-clause-loaded : goal.returns-clause-loaded
returns-clause-loaded g c = loaded_where g.K.Keeper.IsLoaded true c.load.new.self c.in_ok-tables.ensures.loaded
