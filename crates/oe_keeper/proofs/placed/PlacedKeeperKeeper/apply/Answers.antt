use Rattle.oe_keeper.proofs.Using.{loaded_if, loaded_where, silent_where}
use Rattle.oe_keeper.proofs.placed.PlacedKeeperKeeper.apply.Goals as goal

pub apply-requires : goal.apply-requires
apply-requires g c = loaded_if g.K.Keeper.IsLoaded c.args.self.now.is_used c.args.self.now.keeper c.if-not-self.false c.requires

pub returns-clause-silent : goal.returns-clause-silent
returns-clause-silent g c = silent_where g.K.Keeper.Tells c.args.self.now.is_used c.args.self.now.keeper c.apply.new.self c.apply.ensures.silent

pub returns-clause-loaded : goal.returns-clause-loaded
returns-clause-loaded g c = loaded_where g.K.Keeper.IsLoaded c.args.self.now.is_used c.apply.new.self c.apply.ensures.loaded
