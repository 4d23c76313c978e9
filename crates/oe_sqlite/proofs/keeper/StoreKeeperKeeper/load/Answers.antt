use Rattle.oe_sqlite.proofs.Telling.{tells_rows}
use Rattle.oe_sqlite.proofs.keeper.StoreKeeperKeeper.load.Goals as goal

pub returns-in-Ok-clause-tells : goal.returns-in-Ok-clause-tells
returns-in-Ok-clause-tells g c shaped clean = tells_rows c.load_all.new.self.is_told c.load_all.new.self.place c.load_all.new.self.held (c.in-Ok.ensures.shaped shaped) clean
