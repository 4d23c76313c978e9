use Rattle.std.proofs.Common.{◌≡◌, take}
use Rattle.horizontal_hull.specs.Arcs.{centers_of}
use Rattle.horizontal_hull.proofs.arcs.centers.Given as goal

abbrev pub invariant-loop-arc : goal.invariant-loop-arc
invariant-loop-arc l = l.centers.items ≡ centers_of (take l.arc-index l.arcs)
