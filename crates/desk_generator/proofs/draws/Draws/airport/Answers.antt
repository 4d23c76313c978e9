use Rattle.std.proofs.Common.{arith, pos, ◌+ℤ◌, ◌-ℤ◌, FitsSigned, w64, to_z-of_z}
use Rattle.std.proofs.lemmas.Int.{ints}
use Rattle.desk_generator.proofs.DrawingFacts.{airport_made, told_made}
use Rattle.desk_generator.proofs.draws.Draws.airport.Goals as goal

pub returns-clause-value : goal.returns-clause-value
returns-clause-value c =
    let x = c.coordinate-x.result in
    let y = c.coordinate-y.result in
    let z = c.length-elevation.result in
    let w = c.arm-west.result in
    let e = c.arm-east.result in
    let fx : FitsSigned w64 x = omega (arith, ints, c.coordinate-x.ensures.least, c.coordinate-x.ensures.most) in
    let fy : FitsSigned w64 y = omega (arith, ints, c.coordinate-y.ensures.least, c.coordinate-y.ensures.most) in
    let fz : FitsSigned w64 z = omega (arith, ints, c.length-elevation.ensures.least, c.length-elevation.ensures.below) in
    let fw : FitsSigned w64 w = omega (arith, ints, c.arm-west.ensures.least, c.arm-west.ensures.most) in
    let fe : FitsSigned w64 e = omega (arith, ints, c.arm-east.ensures.least, c.arm-east.ensures.most) in
    let fs : FitsSigned w64 (x -ℤ w) = omega (arith, ints, c.coordinate-x.ensures.least, c.coordinate-x.ensures.most, c.arm-west.ensures.least, c.arm-west.ensures.most) in
    let ft : FitsSigned w64 (x +ℤ e) = omega (arith, ints, c.coordinate-x.ensures.least, c.coordinate-x.ensures.most, c.arm-east.ensures.least, c.arm-east.ensures.most) in
    let p = simp to_z-of_z at c.point_at.ensures in
    let q = simp to_z-of_z at c.end_at.ensures in
    let r = simp to_z-of_z at c.end_at-2.ensures in
    simp to_z-of_z
    (airport_made c.args.number c.args.self.now _ _ _ _ _ _ _ x y z w e _ _ _ _ _ _ _ c.airport_name.ensures c.runway_name.ensures c.coordinate-x.ensures.source c.coordinate-y.ensures.source
    c.length-elevation.ensures.source c.arm-west.ensures.source c.arm-east.ensures.source c.approach-kind1.ensures.source c.approach-kind2.ensures.source
    c.coordinate-x.ensures.value c.coordinate-y.ensures.value c.length-elevation.ensures.value c.arm-west.ensures.value c.arm-east.ensures.value
    c.approach-kind1.ensures.value c.approach-kind2.ensures.value p q r)

pub returns-clause-told : goal.returns-clause-told
returns-clause-told c =
    let z = c.length-elevation.result in
    let fz : FitsSigned w64 z = omega (arith, ints, c.length-elevation.ensures.least, c.length-elevation.ensures.below) in
    let q = simp to_z-of_z at c.end_at.ensures in
    let r = simp to_z-of_z at c.end_at-2.ensures in
    simp to_z-of_z
    (told_made c.args.number _ _ c.point_at.result z _ _ _ _ _ _ _ _ c.airport_name.ensures c.runway_name.ensures c.length-elevation.ensures.least c.length-elevation.ensures.below q r)
