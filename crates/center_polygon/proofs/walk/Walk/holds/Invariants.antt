use Rattle.std.proofs.Common.{◌≡◌, drop}
use Rattle.center_polygon.specs.Walks.{keeps_left}
use Rattle.center_polygon.proofs.walk.Walk.holds.Given as goal

abbrev pub invariant-loop-next : goal.invariant-loop-next
invariant-loop-next l = keeps_left l.center l.self.first l.self.first l.self.rest.items ≡ keeps_left l.center l.self.first l.corner (drop l.next-index l.next-items)
