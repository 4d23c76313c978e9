use Rattle.std.proofs.Common.{refl}
use Rattle.oe_stations.proofs.laws.order_of_places.Goals as goal

pub returns : goal.returns
returns c = λ p q. refl
