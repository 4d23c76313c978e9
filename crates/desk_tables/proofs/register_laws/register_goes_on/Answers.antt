use Rattle.desk_tables.proofs.GoingOn.{register_kept}
use Rattle.desk_tables.proofs.register_laws.register_goes_on.Goals as goal

pub returns : goal.returns
returns c = register_kept
