use Rattle.std.proofs.Common.{◌+ℤ◌, ◌-ℤ◌, ◌*ℤ◌, pos, FitsSigned, w64, to_z-of_z, arith}
use Rattle.std.proofs.lemmas.Int.{ints}
use Rattle.imaginary_surfaces.proofs.clearance.Clearance.is_far_aside.Goals as goal

pub returns : goal.returns
returns c =
    let s = c.args.self.now in
    let rise = c.args.rise in
    let ahead = c.args.ahead in
    let aside = c.args.aside in
    let q = c.requires in
    let fr : FitsSigned w64 rise = c.ranges.rise in
    let fa : FitsSigned w64 ahead = c.ranges.ahead in
    let fb : FitsSigned w64 aside = c.ranges.aside in
    let fw : FitsSigned w64 s.width = omega (arith, ints, s.wide.least, s.wide.most) in
    let f1 : FitsSigned w64 (pos 40 *ℤ aside) = omega (arith, ints, q.aside_least, q.aside_most) in
    let f2 : FitsSigned w64 (pos 6 *ℤ ahead) = omega (arith, ints, q.ahead_least, q.ahead_most) in
    let f3 : FitsSigned w64 (pos 40 *ℤ aside -ℤ pos 6 *ℤ ahead) = omega (arith, ints, q.aside_least, q.aside_most, q.ahead_least, q.ahead_most) in
    let f4 : FitsSigned w64 (pos 20 *ℤ s.width) = omega (arith, ints, s.wide.least, s.wide.most) in
    let f5 : FitsSigned w64 (pos 280 *ℤ rise) = omega (arith, ints, q.least, q.most) in
    let f6 : FitsSigned w64 (pos 20 *ℤ s.width +ℤ pos 280 *ℤ rise) = omega (arith, ints, s.wide.least, s.wide.most, q.least, q.most) in
    simp to_z-of_z at c.is_longer.ensures
