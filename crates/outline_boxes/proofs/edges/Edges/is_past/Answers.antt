use Rattle.std.proofs.Common.{◌*◌, ◌≤◌, ◌^◌, ◌*ℤ◌, unsigned_abs, ◌≡◌, FitsSigned, w64, to_z-of_z, arith}
use Rattle.std.specs.Int.{w128}
use Rattle.std.proofs.lemmas.Int.{ints}
use Rattle.grid_exact.proofs.Sizes.{ProductFits-small, abs_mul_le}
use Rattle.outline_boxes.proofs.edges.Edges.is_past.Goals as goal

pub is_at_most_root-requires-clause-right : goal.is_at_most_root-requires-clause-right
is_at_most_root-requires-clause-right c =
    let s = c.args.self.now in
    let e = s.sized in
    let fz : FitsSigned w64 c.args.z = c.ranges.z in
    let fs : FitsSigned w64 s.scale = omega (arith, ints, e.scale_least, e.scale_most) in
    let fr : FitsSigned w128 c.product.result = omega (arith, ints) in
    let v : c.product.result ≡ s.scale *ℤ c.args.z = simp to_z-of_z at c.product.ensures.value in
    let m : unsigned_abs (s.scale *ℤ c.args.z) ≤ 2 ^ 20 * 2 ^ 21 = abs_mul_le s.scale c.args.z (2 ^ 20) (2 ^ 21) (omega (arith, ints, e.scale_least, e.scale_most)) c.requires.z in
    simp to_z-of_z (rw v (ProductFits-small (s.scale *ℤ c.args.z) s.square (omega (arith, m)) (omega (arith, e.line.size))))
