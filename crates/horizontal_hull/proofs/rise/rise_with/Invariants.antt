use Rattle.std.proofs.Common.{take}
use Rattle.std.specs.List.{list_any}
use Rattle.horizontal_hull.specs.Rises.{IsLeastRise, in_risen}
use Rattle.horizontal_hull.proofs.rise.rise_with.Given as goal

abbrev pub invariant-loop-b : goal.invariant-loop-b
invariant-loop-b l = IsLeastRise (λ k. list_any (in_risen l.x k l.a) (take l.b-index l.others)) l.most l.rise
