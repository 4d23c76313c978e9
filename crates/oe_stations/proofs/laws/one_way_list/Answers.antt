use Rattle.oe_stations.proofs.OneList.{one_list}
use Rattle.oe_stations.proofs.laws.one_way_list.Goals as goal

pub returns : goal.returns
returns c = one_list
