use Rattle.desk_tables.proofs.Coming.{heliport_comes}
use Rattle.desk_tables.proofs.register_laws.heliport_comes.Goals as goal

pub returns : goal.returns
returns c = heliport_comes
