-- The area of the limit near an airport is known exactly.
use Rattle.std.proofs.Common.{◌≡◌, pos}
use Rattle.grid_exact.specs.declared.area.Area.{Area}
use Rattle.airfields.specs.declared.airfield.Airport.{Airport}
use Rattle.height_rules.specs.NearAreas.{HoldsDisc, IsNearArea}
use Rattle.height_rules.proofs.AreaFacts.{reach_box, reach_least}
use Rattle.airfield_findings.specs.Around.{around_point}
use Rattle.airfield_findings.proofs.BoxOrder.{encloses_both, least_once}

-- it reaches 5.99 nautical miles from the reference point to each side
pub near_exact : (a : Airport) (box : Area) → IsNearArea a box → box ≡ around_point a.arp.x a.arp.y (pos 363958)
near_exact a box h =
    let e = least_once (HoldsDisc a.arp) box (reach_box a.arp) h.disc_least (reach_least a.arp) in
    encloses_both box (around_point a.arp.x a.arp.y (pos 363958)) e.0 e.1
