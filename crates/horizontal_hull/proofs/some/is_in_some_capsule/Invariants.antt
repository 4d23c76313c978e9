use Rattle.std.proofs.Common.{◌≡◌, drop}
use Rattle.horizontal_hull.specs.Capsules.{in_capsule}
use Rattle.center_polygon.specs.Somes.{some_two}
use Rattle.horizontal_hull.proofs.some.is_in_some_capsule.Given as goal

abbrev pub invariant-loop-i : goal.invariant-loop-i
invariant-loop-i l = some_two (λ a b. in_capsule l.edge a b l.x l.c) l.arcs ≡ some_two (λ a b. in_capsule l.edge a b l.x l.c) (drop l.i l.arcs)
