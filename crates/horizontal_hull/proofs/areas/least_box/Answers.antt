use Rattle.std.proofs.lemmas.List.{take_all}
use Rattle.horizontal_hull.proofs.LeastBoxes.{least_with_next}
use Rattle.horizontal_hull.proofs.areas.least_box.Goals as goal

pub loop-arc-preserved : goal.loop-arc-preserved
loop-arc-preserved c =
    least_with_next c.args.arcs.now c.args.c c.loop-arc.arc-index c.arc-item.result c.loop-arc.least c.disc_box.result c.joined-least.result c.loop-arc-test.true c.arc-item.is c.disc_box.ensures c.loop-arc.invariant
    c.joined-least.ensures.exact

pub returns : goal.returns
returns c = record { holds = rw (take_all c.loop-arc.arc-index c.args.arcs.now c.loop-arc-test.false) at c.loop-arc.invariant.holds; least = c.loop-arc.invariant.least }
