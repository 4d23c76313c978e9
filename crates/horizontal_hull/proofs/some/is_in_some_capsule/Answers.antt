use Rattle.horizontal_hull.proofs.CloseFacts.{close_behind}
use Rattle.horizontal_hull.proofs.some.is_in_some_capsule.Goals as goal

pub is_in_capsule_with-requires-clause-close : goal.is_in_capsule_with-requires-clause-close
is_in_capsule_with-requires-clause-close c = close_behind c.args.arcs.now c.loop-i.i c.index-arcs-i.result c.args.x.now c.loop-i-test.true c.index-arcs-i.is c.requires.close
