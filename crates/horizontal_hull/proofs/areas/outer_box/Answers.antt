use Rattle.std.proofs.Common.{◌≡◌, length, arith}
use Rattle.horizontal_hull.proofs.LeastBoxes.{outer_least, outer_nothing}
use Rattle.horizontal_hull.proofs.areas.outer_box.Goals as goal

pub returns-then-is_empty : goal.returns-then-is_empty
returns-then-is_empty c =
    let none : length c.args.arcs.now ≡ 0 = grind (arith, c.is_empty.ensures, c.if-is_empty.true) in
    λ arp near. outer_nothing c.args.arcs.now _ none c.nowhere.ensures

pub returns : goal.returns
returns c = λ arp near. outer_least arp c.args.arcs.now c.least_box.result _ near c.least_box.ensures c.on_grid.ensures
