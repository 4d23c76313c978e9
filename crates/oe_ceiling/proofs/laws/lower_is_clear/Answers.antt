use Rattle.oe_ceiling.proofs.ListsBelow.{clear_below}
use Rattle.oe_ceiling.proofs.laws.lower_is_clear.Goals as goal

pub returns : goal.returns
returns c = clear_below
