use Rattle.std.proofs.Common.{ap, arith}
use Rattle.std.proofs.lemmas.Int.{ints}
use Rattle.grid_exact.specs.declared.area.Area.{Area}
use Rattle.outline_boxes.proofs.KeptBoxes.{no_points}
use Rattle.outline_boxes.proofs.bounds.Bounds.nowhere.Goals as goal

pub returns : goal.returns
returns c = λ x h.
    let e = ap (λ (a : Area). a.x0) c.of.ensures in
    no_points _ x (omega (arith, ints, e)) h
