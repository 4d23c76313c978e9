use Rattle.std.proofs.Common.{◌≡◌, drop}
use Rattle.center_polygon.specs.Walks.{turns_on}
use Rattle.center_polygon.proofs.walk.turns_on.Given as goal

abbrev pub invariant-loop-next : goal.invariant-loop-next
invariant-loop-next l = turns_on l.first l.second l.rest ≡ turns_on l.first l.corner (drop l.next-index l.rest)
