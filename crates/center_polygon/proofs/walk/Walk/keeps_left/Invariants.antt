use Rattle.std.proofs.Common.{◌≡◌, drop}
use Rattle.center_polygon.specs.Spots.{at}
use Rattle.center_polygon.specs.Walks.{keeps_left}
use Rattle.center_polygon.proofs.walk.Walk.keeps_left.Given as goal

abbrev pub invariant-loop-next : goal.invariant-loop-next
invariant-loop-next l = keeps_left (at l.x) l.self.first l.self.first l.self.rest.items ≡ keeps_left (at l.x) l.self.first l.corner (drop l.next-index l.next-items)
