use Rattle.horizontal_hull.specs.declared.edge.Edge.TheVariants.{Open}
use Rattle.horizontal_hull.proofs.Tests.{Within-test}
use Rattle.horizontal_hull.proofs.hull.Hull.strictly_within.Goals as goal

pub returns : goal.returns
returns c = record { exact = rw c.is_within.ensures (Within-test Open c.args.self.now.arcs c.args.x.now c.args.c) }
