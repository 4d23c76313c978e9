use Rattle.std.proofs.Common.{◌≡◌, ◌*ℤ◌, pos, unsigned_abs, ap, FitsSigned, w64, to_z-of_z, arith}
use Rattle.std.specs.Int.{w128}
use Rattle.std.proofs.lemmas.Int.{ints, to_z_pos}
use Rattle.outline_boxes.proofs.EdgeSizes.{edges_small, part_59}
use Rattle.outline_boxes.proofs.edges.Edges.near_part.Goals as goal

pub returns-clause-size : goal.returns-clause-size
returns-clause-size c =
    let s = c.args.self.now in
    let m = edges_small s.scale s.ahead s.near s.far s.square s.sized in
    let fn = m.near_fits in
    let fa : FitsSigned w64 (pos c.args.across) = omega (arith, ints, c.requires.across) in
    let fr : FitsSigned w128 c.product.result = omega (arith, ints) in
    let e : c.product.result ≡ s.near *ℤ pos c.args.across = simp (to_z-of_z, to_z_pos w64 c.args.across (omega (arith, c.requires.across))) at c.product.ensures.value in
    simp to_z-of_z (omega (arith, ap unsigned_abs e, part_59 s.near (pos c.args.across) m.near_size c.requires.across))
