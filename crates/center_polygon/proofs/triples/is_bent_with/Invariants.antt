use Rattle.std.proofs.Common.{◌≡◌, drop}
use Rattle.center_polygon.specs.Somes.{some_two}
use Rattle.center_polygon.specs.Triangles.{is_bent}
use Rattle.center_polygon.proofs.triples.is_bent_with.Given as goal

abbrev pub invariant-loop-i : goal.invariant-loop-i
invariant-loop-i l = some_two (is_bent l.a) l.others ≡ some_two (is_bent l.a) (drop l.i l.others)
