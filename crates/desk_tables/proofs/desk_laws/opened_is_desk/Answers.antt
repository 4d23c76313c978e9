use Rattle.desk_tables.proofs.ReadDesks.{opened_desk}
use Rattle.desk_tables.proofs.desk_laws.opened_is_desk.Goals as goal

pub returns : goal.returns
returns c = opened_desk (record { register = c.register_goes_on.ensures; names = c.names_go_on.ensures })
