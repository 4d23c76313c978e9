use Rattle.std.proofs.Common.{◌≡◌, drop}
use Rattle.std.specs.List.{list_any}
use Rattle.horizontal_hull.specs.Capsules.{in_capsule}
use Rattle.horizontal_hull.proofs.some.is_in_capsule_with.Given as goal

abbrev pub invariant-loop-b : goal.invariant-loop-b
invariant-loop-b l = list_any (λ b. in_capsule l.edge l.a b l.x l.c) l.others ≡ list_any (λ b. in_capsule l.edge l.a b l.x l.c) (drop l.b-index l.others)
