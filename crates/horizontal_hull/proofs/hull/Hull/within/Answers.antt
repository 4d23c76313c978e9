use Rattle.horizontal_hull.specs.declared.edge.Edge.TheVariants.{Closed}
use Rattle.horizontal_hull.proofs.Tests.{Within-test}
use Rattle.horizontal_hull.proofs.hull.Hull.within.Goals as goal

pub returns : goal.returns
returns c = record { exact = rw c.is_within.ensures (Within-test Closed c.args.self.now.arcs c.args.x.now c.args.c) }
