use Rattle.std.proofs.Common.{pos, ◌+ℤ◌, ◌*ℤ◌, FitsSigned, w64, to_z-of_z, arith, refl}
use Rattle.std.proofs.lemmas.Int.{ints}
use Rattle.imaginary_surfaces.proofs.AreaFacts.{outline_sized}
use Rattle.imaginary_surfaces.proofs.approach.ApproachSurface.outline.Goals as goal

pub invariant_of-result : goal.invariant_of-result
invariant_of-result c =
    let s = c.args.self.now in
    let m = c.args.margin in
    let wide = s.sound.wide in
    let sized = s.sound.sized in
    let fm : FitsSigned w64 m = c.ranges.margin in
    let f1 : FitsSigned w64 s.width = omega (arith, ints, wide.least, wide.most) in
    let f2 : FitsSigned w64 (pos 20 *ℤ s.width) = omega (arith, ints, wide.least, wide.most) in
    let f3 : FitsSigned w64 (pos 20 *ℤ s.width +ℤ m) = omega (arith, ints, wide.least, wide.most, c.requires.least, c.requires.most) in
    let f4 : FitsSigned w64 s.class.outer = omega (arith, ints, sized.outer_least, sized.outer_most) in
    let f5 : FitsSigned w64 (pos 20 *ℤ s.class.outer) = omega (arith, ints, sized.outer_least, sized.outer_most) in
    let f6 : FitsSigned w64 (pos 20 *ℤ s.class.outer +ℤ m) = omega (arith, ints, sized.outer_least, sized.outer_most, c.requires.least, c.requires.most) in
    let f7 : FitsSigned w64 s.class.length = omega (arith, ints, sized.length_least, sized.length_most) in
    simp to_z-of_z (record { sized = outline_sized s.width s.z m s.class s.sound c.requires.least c.requires.most })

pub returns : goal.returns
returns c =
    let s = c.args.self.now in
    let m = c.args.margin in
    let wide = s.sound.wide in
    let sized = s.sound.sized in
    let fm : FitsSigned w64 m = c.ranges.margin in
    let f1 : FitsSigned w64 s.width = omega (arith, ints, wide.least, wide.most) in
    let f2 : FitsSigned w64 (pos 20 *ℤ s.width) = omega (arith, ints, wide.least, wide.most) in
    let f3 : FitsSigned w64 (pos 20 *ℤ s.width +ℤ m) = omega (arith, ints, wide.least, wide.most, c.requires.least, c.requires.most) in
    let f4 : FitsSigned w64 s.class.outer = omega (arith, ints, sized.outer_least, sized.outer_most) in
    let f5 : FitsSigned w64 (pos 20 *ℤ s.class.outer) = omega (arith, ints, sized.outer_least, sized.outer_most) in
    let f6 : FitsSigned w64 (pos 20 *ℤ s.class.outer +ℤ m) = omega (arith, ints, sized.outer_least, sized.outer_most, c.requires.least, c.requires.most) in
    let f7 : FitsSigned w64 s.class.length = omega (arith, ints, sized.length_least, sized.length_most) in
    simp to_z-of_z refl
