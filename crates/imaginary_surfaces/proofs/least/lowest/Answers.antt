use Rattle.std.proofs.Common.{◌≡◌, ◌≤◌, ◌^◌, ◌-ℤ◌, ◌≤ℤ◌, pos, unsigned_abs, FitsSigned, w64, to_z-of_z, arith}
use Rattle.std.specs.Int.{int_min}
use Rattle.std.proofs.lemmas.Int.{ints, clamps}
use Rattle.imaginary_surfaces.proofs.least.lowest.Goals as goal
use Rattle.imaginary_surfaces.proofs.least.lowest.Goals.{After-min-2}

record Least (c : After-min-2) : Type 0 where
  low : c.min-2.result ≡ int_min (int_min c.level_below-level.result c.args.one.now.z) c.args.two.now.z
  size : unsigned_abs c.min-2.result ≤ 2 ^ 19

least : (c : After-min-2) → Least c
least c =
    let one = c.args.one.now in
    let two = c.args.two.now in
    let fl : FitsSigned w64 c.level_below-level.result = omega (arith, ints) in
    let f1 : FitsSigned w64 one.z = omega (arith, ints, one.sound.z_size) in
    let f2 : FitsSigned w64 two.z = omega (arith, ints, two.sound.z_size) in
    let e : c.min.result ≡ int_min c.level_below-level.result one.z = simp to_z-of_z at c.min.ensures.value in
    let fm : FitsSigned w64 c.min.result = omega (arith, ints) in
    let f : c.min-2.result ≡ int_min c.min.result two.z = simp to_z-of_z at c.min-2.ensures.value in
    record { low = rw e at f; size = omega (arith, ints, clamps, e, f, c.level_below-level.ensures.size, one.sound.z_size, two.sound.z_size) }

pub overflow_sub-result : goal.overflow_sub-result
overflow_sub-result c =
    let l = least c in
    let fm : FitsSigned w64 c.min-2.result = omega (arith, ints) in
    simp to_z-of_z (omega (arith, ints, l.size))

pub returns : goal.returns
returns c =
    let l = least c in
    let fm : FitsSigned w64 c.min-2.result = omega (arith, ints) in
    let fs : FitsSigned w64 (c.min-2.result -ℤ pos 500) = omega (arith, ints, l.size) in
    let k = c.args.primary.now.centerline in
    let fz : FitsSigned w64 k.z = omega (arith, ints, k.sloped.z_size) in
    let fr : FitsSigned w64 k.rise = omega (arith, ints, k.sloped.rise_size) in
    let low : c.level_below-level.result ≤ℤ (k.z -ℤ pos (unsigned_abs k.rise)) = simp to_z-of_z at c.level_below-level.ensures.low in
    simp to_z-of_z (record {
      level = omega (arith, ints, clamps, l.low, low);
      level1 = omega (arith, ints, clamps, l.low);
      level2 = omega (arith, ints, clamps, l.low);
      size = omega (arith, ints, l.size);
    })
