use Rattle.horizontal_hull.proofs.OrderFacts.{near_sorted, radius_sorted, seen_sorted}
use Rattle.horizontal_hull.proofs.seen.Seen.of.Goals as goal

pub ordered-requires-clause-near : goal.ordered-requires-clause-near
ordered-requires-clause-near c = near_sorted c.args.a.now c.args.b.now c.smaller.result.now c.larger.result.now c.args.x.now c.smaller.ensures c.larger.ensures c.requires.near

pub ordered-requires-clause-order : goal.ordered-requires-clause-order
ordered-requires-clause-order c = radius_sorted c.args.a.now c.args.b.now c.smaller.result.now c.larger.result.now c.smaller.ensures c.larger.ensures

pub returns : goal.returns
returns c = seen_sorted c.args.a.now c.args.b.now c.smaller.result.now c.larger.result.now c.args.x.now c.ordered.result c.smaller.ensures c.larger.ensures c.ordered.ensures
