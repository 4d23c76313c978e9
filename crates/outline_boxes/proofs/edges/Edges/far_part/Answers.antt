use Rattle.std.proofs.Common.{◌≡◌, ◌≤◌, ◌^◌, ◌+ℤ◌, ◌*ℤ◌, pos, unsigned_abs, ap, FitsSigned, w64, to_z-of_z, arith}
use Rattle.std.specs.Int.{w128}
use Rattle.std.proofs.lemmas.Int.{ints, to_z_pos}
use Rattle.outline_boxes.proofs.EdgeSizes.{edges_small, part_59}
use Rattle.outline_boxes.proofs.edges.Edges.far_part.Goals as goal
use Rattle.outline_boxes.proofs.edges.Edges.far_part.Goals.{After-product-2, After-plus}

ahead : (c : goal.After-product-2) → c.product.result ≡ c.args.self.now.ahead *ℤ c.args.toward
ahead c =
    let s = c.args.self.now in
    let m = edges_small s.scale s.ahead s.near s.far s.square s.sized in
    let fa = m.ahead_fits in
    let ft : FitsSigned w64 c.args.toward = c.ranges.toward in
    simp to_z-of_z at c.product.ensures.value

beside : (c : goal.After-product-2) → c.product-2.result ≡ c.args.self.now.far *ℤ pos c.args.across
beside c =
    let s = c.args.self.now in
    let m = edges_small s.scale s.ahead s.near s.far s.square s.sized in
    let ff = m.far_fits in
    simp (to_z-of_z, to_z_pos w64 c.args.across (omega (arith, c.requires.across))) at c.product-2.ensures.value

ahead_size : (c : goal.After-product-2) → unsigned_abs c.product.result ≤ 2 ^ 59
ahead_size c =
    let s = c.args.self.now in
    let m = edges_small s.scale s.ahead s.near s.far s.square s.sized in
    omega (arith, ap unsigned_abs (ahead c), part_59 s.ahead c.args.toward m.ahead_size c.requires.toward)

beside_size : (c : goal.After-product-2) → unsigned_abs c.product-2.result ≤ 2 ^ 59
beside_size c =
    let s = c.args.self.now in
    let m = edges_small s.scale s.ahead s.near s.far s.square s.sized in
    omega (arith, ap unsigned_abs (beside c), part_59 s.far (pos c.args.across) m.far_size c.requires.across)

pub plus-requires-clause-left : goal.plus-requires-clause-left
plus-requires-clause-left c =
    let fr : FitsSigned w128 c.product.result = omega (arith, ints) in
    simp to_z-of_z (omega (arith, ahead_size c))

pub plus-requires-clause-right : goal.plus-requires-clause-right
plus-requires-clause-right c =
    let fr : FitsSigned w128 c.product-2.result = omega (arith, ints) in
    simp to_z-of_z (omega (arith, beside_size c))

total : (c : goal.After-plus) → c.plus.result ≡ c.args.self.now.ahead *ℤ c.args.toward +ℤ c.args.self.now.far *ℤ pos c.args.across
total c =
    let f1 : FitsSigned w128 c.product.result = omega (arith, ints) in
    let f2 : FitsSigned w128 c.product-2.result = omega (arith, ints) in
    rw (ahead c.before, beside c.before) at (simp to_z-of_z at c.plus.ensures.value)

pub returns-clause-value : goal.returns-clause-value
returns-clause-value c =
    let fr : FitsSigned w128 c.plus.result = omega (arith, ints) in
    simp to_z-of_z (total c)

pub returns-clause-size : goal.returns-clause-size
returns-clause-size c =
    let f1 : FitsSigned w128 c.product.result = omega (arith, ints) in
    let f2 : FitsSigned w128 c.product-2.result = omega (arith, ints) in
    let fr : FitsSigned w128 c.plus.result = omega (arith, ints) in
    simp to_z-of_z (omega (arith, ahead_size c.before, beside_size c.before, simp to_z-of_z at c.plus.ensures.size))
