use Rattle.desk_tables.proofs.Coming.{runway_comes}
use Rattle.desk_tables.proofs.register_laws.runway_comes.Goals as goal

pub returns : goal.returns
returns c = runway_comes
