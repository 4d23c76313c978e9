use Rattle.oe_stations.proofs.OneList.{one_station}
use Rattle.oe_stations.proofs.laws.one_station.Goals as goal

pub returns : goal.returns
returns c = one_station
