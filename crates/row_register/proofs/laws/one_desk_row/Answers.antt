use Rattle.row_register.proofs.OneValue.{one_desk}
use Rattle.row_register.proofs.laws.one_desk_row.Goals as goal

pub returns : goal.returns
returns c = one_desk
