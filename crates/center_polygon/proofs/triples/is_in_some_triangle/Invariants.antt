use Rattle.std.proofs.Common.{◌≡◌, drop}
use Rattle.center_polygon.specs.Spots.{at}
use Rattle.center_polygon.specs.Somes.{some_three}
use Rattle.center_polygon.specs.Triangles.{in_triangle}
use Rattle.center_polygon.proofs.triples.is_in_some_triangle.Given as goal

abbrev pub invariant-loop-i : goal.invariant-loop-i
invariant-loop-i l = some_three (λ a b d. in_triangle a b d (at l.x)) l.centers ≡ some_three (λ a b d. in_triangle a b d (at l.x)) (drop l.i l.centers)
