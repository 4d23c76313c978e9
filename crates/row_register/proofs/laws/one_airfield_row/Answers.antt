use Rattle.row_register.proofs.OneValue.{one_airfield}
use Rattle.row_register.proofs.laws.one_airfield_row.Goals as goal

pub returns : goal.returns
returns c = one_airfield
