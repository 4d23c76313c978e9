use Rattle.oe_session.proofs.Orders.{orderly}
use Rattle.oe_session.proofs.laws.interleaved.Goals as goal

pub returns : goal.returns
returns c = orderly
