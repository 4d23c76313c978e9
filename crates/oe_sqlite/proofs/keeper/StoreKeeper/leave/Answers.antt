use Rattle.oe_sqlite.proofs.Telling.{if_some}
use Rattle.oe_sqlite.proofs.keeper.StoreKeeper.leave.Goals as goal

pub returns-clause-rows : goal.returns-clause-rows
returns-clause-rows g c = if_some c.leave.result (λ it h clean rows told. h clean rows told.1) c.leave.ensures.rows
