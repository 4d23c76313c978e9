use Rattle.horizontal_hull.proofs.LeastBoxes.{IsLeastSoFar}
use Rattle.horizontal_hull.proofs.areas.least_box.Given as goal

abbrev pub invariant-loop-arc : goal.invariant-loop-arc
invariant-loop-arc l = IsLeastSoFar l.arcs l.c l.arc-index l.least
