use Rattle.std.proofs.Common.{◌≤◌, ◌*◌, ◌^◌, ℤ, unsigned_abs, FitsSigned, w64, to_z-of_z, arith, ap}
use Rattle.std.specs.Int.{w128}
use Rattle.std.proofs.lemmas.Nat.{mul-le}
use Rattle.std.proofs.lemmas.Int.{ints}
use Rattle.runway_classes.specs.declared.class.EndClass.{EndClass}
use Rattle.runway_classes.specs.Class.{HasSizes}
use Rattle.imaginary_surfaces.proofs.approach.ApproachSurface.outside.Goals as goal

k_size : (e : EndClass) → HasSizes e → unsigned_abs e.k ≤ 6
k_size e h = omega (arith, ints, h.k_least, h.k_most)

k_fits : (e : EndClass) → HasSizes e → FitsSigned w64 e.k
k_fits e h = omega (arith, ints, h.k_least, h.k_most)

grown : (k m : ℤ) → unsigned_abs k ≤ 6 → unsigned_abs m ≤ 2 ^ 45 → unsigned_abs k * unsigned_abs m ≤ 6 * 2 ^ 45
grown k m h s = mul-le (unsigned_abs k) (unsigned_abs m) 6 (2 ^ 45) h s

pub minus-requires-clause-right : goal.minus-requires-clause-right
minus-requires-clause-right c =
    let e = c.args.self.now.class in
    let sized = c.args.self.now.sound.sized in
    let fk : FitsSigned w64 e.k = k_fits e sized in
    let fm : FitsSigned w128 c.along.result = omega (arith, ints) in
    let ft : FitsSigned w128 c.scale-2.result = omega (arith, ints) in
    simp to_z-of_z (omega (arith, simp to_z-of_z at c.scale-2.ensures.size, grown e.k c.along.result (k_size e sized) (rw c.along.ensures.value c.along.ensures.reach.size)))

pub returns-clause-size : goal.returns-clause-size
returns-clause-size c =
    let e = c.args.self.now.class in
    let sized = c.args.self.now.sound.sized in
    let fk : FitsSigned w64 e.k = k_fits e sized in
    let fa : FitsSigned w128 c.aside.result = omega (arith, ints) in
    let fm : FitsSigned w128 c.along.result = omega (arith, ints) in
    let fs : FitsSigned w128 c.scale.result = omega (arith, ints) in
    let ft : FitsSigned w128 c.scale-2.result = omega (arith, ints) in
    let fr : FitsSigned w128 c.minus.result = omega (arith, ints) in
    let near : unsigned_abs c.scale.result ≤ 40 * 2 ^ 45 = omega (arith, simp to_z-of_z at c.scale.ensures.size, ap unsigned_abs c.aside.ensures.value, c.aside.ensures.reach.size) in
    let far : unsigned_abs c.scale-2.result ≤ 6 * 2 ^ 45 = omega (arith, simp to_z-of_z at c.scale-2.ensures.size, grown e.k c.along.result (k_size e sized) (rw c.along.ensures.value c.along.ensures.reach.size)) in
    simp to_z-of_z (omega (arith, simp to_z-of_z at c.minus.ensures.size, near, far))
