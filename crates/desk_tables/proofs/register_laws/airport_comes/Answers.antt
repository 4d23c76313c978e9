use Rattle.desk_tables.proofs.Coming.{airport_comes}
use Rattle.desk_tables.proofs.register_laws.airport_comes.Goals as goal

pub returns : goal.returns
returns c = airport_comes
