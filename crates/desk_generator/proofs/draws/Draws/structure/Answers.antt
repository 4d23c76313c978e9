use Rattle.std.proofs.Common.{arith, pos, ◌+ℤ◌, FitsSigned, w64, to_z-of_z, ◌∙◌, ap}
use Rattle.std.proofs.lemmas.Int.{ints}
use Rattle.desk_generator.specs.declared.drawing.TheConstants.{LEAST_HEIGHT}
use Rattle.desk_generator.proofs.DrawingFacts.{structure_made}
use Rattle.desk_generator.proofs.draws.Draws.structure.Goals as goal

pub returns-clause-value : goal.returns-clause-value
returns-clause-value c =
    let x = c.coordinate-x.result in
    let y = c.coordinate-y.result in
    let z = c.length-ground.result in
    let h = c.length-height.result in
    let fx : FitsSigned w64 x = omega (arith, ints, c.coordinate-x.ensures.least, c.coordinate-x.ensures.most) in
    let fy : FitsSigned w64 y = omega (arith, ints, c.coordinate-y.ensures.least, c.coordinate-y.ensures.most) in
    let fz : FitsSigned w64 z = omega (arith, ints, c.length-ground.ensures.least, c.length-ground.ensures.below) in
    let fh : FitsSigned w64 h = omega (arith, ints, c.length-height.ensures.least, c.length-height.ensures.below) in
    let ft : FitsSigned w64 (LEAST_HEIGHT +ℤ h) = omega (arith, ints, c.length-height.ensures.least, c.length-height.ensures.below) in
    let p = simp to_z-of_z at c.point_at.ensures in
    let made = simp to_z-of_z at c.in-Ok.ensures.exact in
    made ∙
    structure_made c.args.self.now _ _ _ _ x y z (LEAST_HEIGHT +ℤ h) c.point_at.result c.coordinate-x.ensures.source c.coordinate-y.ensures.source c.length-ground.ensures.source
    c.length-height.ensures.source c.coordinate-x.ensures.value c.coordinate-y.ensures.value c.length-ground.ensures.value (ap (λ v. LEAST_HEIGHT +ℤ v) c.length-height.ensures.value) p
