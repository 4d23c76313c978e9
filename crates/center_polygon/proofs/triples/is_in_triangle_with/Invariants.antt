use Rattle.std.proofs.Common.{◌≡◌, drop}
use Rattle.center_polygon.specs.Spots.{at}
use Rattle.center_polygon.specs.Somes.{some_two}
use Rattle.center_polygon.specs.Triangles.{in_triangle}
use Rattle.center_polygon.proofs.triples.is_in_triangle_with.Given as goal

abbrev pub invariant-loop-i : goal.invariant-loop-i
invariant-loop-i l = some_two (λ b d. in_triangle l.a b d (at l.x)) l.others ≡ some_two (λ b d. in_triangle l.a b d (at l.x)) (drop l.i l.others)
