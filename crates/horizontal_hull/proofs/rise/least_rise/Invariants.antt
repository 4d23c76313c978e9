use Rattle.std.proofs.Common.{◌+◌}
use Rattle.horizontal_hull.specs.declared.sizes.TheConstants.{CONICAL_RISE}
use Rattle.horizontal_hull.specs.Rises.{in_risen}
use Rattle.horizontal_hull.proofs.Rises.{IsRiseSoFar}
use Rattle.horizontal_hull.proofs.rise.least_rise.Given as goal

abbrev pub invariant-loop-i : goal.invariant-loop-i
invariant-loop-i l = IsRiseSoFar (in_risen l.x) l.arcs l.i (CONICAL_RISE + 1) l.rise
