use Rattle.row_register.proofs.OneValue.{one_runway}
use Rattle.row_register.proofs.laws.one_runway_row.Goals as goal

pub returns : goal.returns
returns c = one_runway
