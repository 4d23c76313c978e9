use Rattle.std.proofs.Common.{FitsSigned, w64, to_z-of_z, arith, refl}
use Rattle.std.specs.Int.{w128}
use Rattle.std.proofs.lemmas.Int.{ints}
use Rattle.outline_boxes.proofs.EdgeSizes.{edges_small}
use Rattle.outline_boxes.proofs.edges.Edges.least.Goals as goal

pub returns-then-is_right-clause-least : goal.returns-then-is_right-clause-least
returns-then-is_right-clause-least c =
    let fp : FitsSigned w128 c.args.part = c.ranges.part in
    let fg : FitsSigned w64 c.guess-guessed.result = omega (arith, ints) in
    simp to_z-of_z ((simp to_z-of_z at c.if-is_right.ensures.least) refl)

pub returns-clause-least : goal.returns-clause-least
returns-clause-least c =
    let s = c.args.self.now in
    let fs = (edges_small s.scale s.ahead s.near s.far s.square s.sized).scale_fits in
    let fp : FitsSigned w128 c.args.part = c.ranges.part in
    let fr : FitsSigned w64 c.least_coordinate.result = omega (arith, ints) in
    simp to_z-of_z (record {
      at = simp to_z-of_z at c.least_coordinate.ensures.reaches;
      least = λ z h. c.least_coordinate.ensures.least z (simp to_z-of_z h);
    })
