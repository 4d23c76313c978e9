use Rattle.desk_tables.proofs.DesksGoOn.{desk_goes_on}
use Rattle.desk_tables.proofs.desk_laws.desk_goes_on.Goals as goal

pub returns : goal.returns
returns c = desk_goes_on (record { register = c.register_goes_on.ensures; names = c.names_go_on.ensures }) c.findings_are_told.ensures
