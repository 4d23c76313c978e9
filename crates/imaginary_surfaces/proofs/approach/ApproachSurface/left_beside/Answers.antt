use Rattle.std.proofs.Common.{◌≡◌, ◌≤◌, ◌*◌, ◌+◌, ◌^◌, pos, ◌+ℤ◌, ◌*ℤ◌, ◌<ℤ◌, unsigned_abs, FitsSigned, w64, to_z-of_z, arith, ap}
use Rattle.std.specs.Int.{w128}
use Rattle.std.proofs.lemmas.Int.{ints}
use Rattle.std.proofs.lemmas.Nat.{mul-le}
use Rattle.imaginary_surfaces.specs.Shapes.{approach_shape}
use Rattle.imaginary_surfaces.proofs.TransitionFacts.{left_positive, outside_positive}
use Rattle.imaginary_surfaces.proofs.approach.ApproachSurface.left_beside.Goals as goal
use Rattle.imaginary_surfaces.proofs.approach.ApproachSurface.left_beside.Goals.{After-scale-2, After-plus}

aside_part : (c : After-scale-2) → (c.scale.result ≡ c.args.rise.now.slope *ℤ c.outside.result) × (unsigned_abs c.scale.result ≤ 50 * 2 ^ 52)
aside_part c =
    let s = c.args.rise.now.slope in
    let rises = c.args.rise.now.rises in
    let fs : FitsSigned w64 s = omega (arith, ints, rises.rises, rises.slope_most) in
    let fo : FitsSigned w128 c.outside.result = omega (arith, ints) in
    let fp : FitsSigned w128 c.scale.result = omega (arith, ints) in
    let e : unsigned_abs c.scale.result ≡ unsigned_abs s * unsigned_abs c.outside.result = simp to_z-of_z at c.scale.ensures.size in
    (simp to_z-of_z at c.scale.ensures.value, rw e (mul-le (unsigned_abs s) (unsigned_abs c.outside.result) 50 (2 ^ 52) (omega (arith, ints, rises.rises, rises.slope_most)) c.outside.ensures.size))

along_part : (c : After-scale-2) → (c.scale-2.result ≡ pos 280 *ℤ c.along.result) × (unsigned_abs c.scale-2.result ≤ 280 * 2 ^ 45)
along_part c =
    let fm : FitsSigned w128 c.along.result = omega (arith, ints) in
    let fp : FitsSigned w128 c.scale-2.result = omega (arith, ints) in
    let e : unsigned_abs c.scale-2.result ≡ 280 * unsigned_abs c.along.result = simp to_z-of_z at c.scale-2.ensures.size in
    (simp to_z-of_z at c.scale-2.ensures.value, omega (arith, e, ap unsigned_abs c.along.ensures.value, c.along.ensures.reach.size))

pub plus-requires-clause-left : goal.plus-requires-clause-left
plus-requires-clause-left c =
    let fp : FitsSigned w128 c.scale.result = omega (arith, ints) in
    simp to_z-of_z (omega (arith, (aside_part c).1))

sum : (c : After-plus) → (c.plus.result ≡ c.scale.result +ℤ c.scale-2.result) × (unsigned_abs c.plus.result ≤ unsigned_abs c.scale.result + unsigned_abs c.scale-2.result)
sum c =
    let fp : FitsSigned w128 c.scale.result = omega (arith, ints) in
    let fq : FitsSigned w128 c.scale-2.result = omega (arith, ints) in
    let fr : FitsSigned w128 c.plus.result = omega (arith, ints) in
    (simp to_z-of_z at c.plus.ensures.value, simp to_z-of_z at c.plus.ensures.size)

pub returns-clause-value : goal.returns-clause-value
returns-clause-value c =
    let fr : FitsSigned w128 c.plus.result = omega (arith, ints) in
    let parts = (goal.at.returns-clause-value c).After-scale-2 in
    let h = rw ((aside_part parts).0, (along_part parts).0, c.requires.slope, c.outside.ensures.value, c.along.ensures.value) at (sum (goal.at.returns-clause-value c).After-plus).0 in
    simp to_z-of_z h

pub returns-clause-positive : goal.returns-clause-positive
returns-clause-positive c =
    let fr : FitsSigned w128 c.plus.result = omega (arith, ints) in
    let out = outside_positive (approach_shape c.args.self.now) c.args.at.now c.args.self.now.sound.wide c.requires.line.some c.requires.reaches in
    let far : pos 0 <ℤ c.outside.result = rw c.outside.ensures.value out in
    let ahead : pos 0 <ℤ c.along.result = rw c.along.ensures.value c.requires.reaches.ahead in
    let parts = (goal.at.returns-clause-positive c).After-scale-2 in
    simp to_z-of_z (rw ((sum (goal.at.returns-clause-positive c).After-plus).0, (aside_part parts).0, (along_part parts).0) (left_positive c.args.rise.now.slope c.outside.result c.along.result c.args.rise.now.rises.rises far ahead))

pub returns-clause-size : goal.returns-clause-size
returns-clause-size c =
    let fr : FitsSigned w128 c.plus.result = omega (arith, ints) in
    let parts = (goal.at.returns-clause-size c).After-scale-2 in
    simp to_z-of_z (omega (arith, (sum (goal.at.returns-clause-size c).After-plus).1, (aside_part parts).1, (along_part parts).1))
