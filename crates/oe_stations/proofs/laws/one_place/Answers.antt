use Rattle.oe_stations.proofs.Places.{one_place_law}
use Rattle.oe_stations.proofs.laws.one_place.Goals as goal

pub returns : goal.returns
returns c = one_place_law
