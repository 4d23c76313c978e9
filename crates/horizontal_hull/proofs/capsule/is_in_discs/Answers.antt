use Rattle.horizontal_hull.specs.Close.{IsNearBoth}
use Rattle.horizontal_hull.proofs.OrderFacts.{near_sorted, radius_sorted, tapered_sorted}
use Rattle.horizontal_hull.proofs.capsule.is_in_discs.Goals as goal
use Rattle.horizontal_hull.proofs.capsule.is_in_discs.Goals.{After-larger}

near : (c : After-larger) → IsNearBoth c.smaller.result.now c.larger.result.now c.args.x.now
near c = near_sorted c.args.a.now c.args.b.now c.smaller.result.now c.larger.result.now c.args.x.now c.smaller.ensures c.larger.ensures c.requires.near

pub is_in_two_discs-requires-clause-first_radius : goal.is_in_two_discs-requires-clause-first_radius
is_in_two_discs-requires-clause-first_radius c = (near c).first_radius

pub is_in_two_discs-requires-clause-second_radius : goal.is_in_two_discs-requires-clause-second_radius
is_in_two_discs-requires-clause-second_radius c = (near c).second_radius

pub is_in_two_discs-requires-clause-order : goal.is_in_two_discs-requires-clause-order
is_in_two_discs-requires-clause-order c = radius_sorted c.args.a.now c.args.b.now c.smaller.result.now c.larger.result.now c.smaller.ensures c.larger.ensures

pub returns : goal.returns
returns c = λ t. tapered_sorted c.args.a.now c.args.b.now c.smaller.result.now c.larger.result.now c.args.x.now c.smaller.ensures c.larger.ensures (c.is_in_two_discs.ensures t)
