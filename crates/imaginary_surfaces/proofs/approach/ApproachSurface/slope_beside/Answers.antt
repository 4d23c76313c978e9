use Rattle.std.proofs.Common.{◌≡◌, FitsSigned, w64, to_z-of_z, arith, ◌∙◌}
use Rattle.std.specs.Int.{w128}
use Rattle.std.proofs.lemmas.Int.{ints}
use Rattle.imaginary_surfaces.specs.Shapes.{approach_shape}
use Rattle.imaginary_surfaces.specs.Transitions.{incline_beside_approach}
use Rattle.imaginary_surfaces.proofs.approach.ApproachSurface.slope_beside.Goals as goal

pub returns-clause-shift : goal.returns-clause-shift
returns-clause-shift c =
    let wide = c.args.self.now.sound.wide in
    let fw : FitsSigned w64 c.args.self.now.width = omega (arith, ints, wide.least, wide.most) in
    let fs : FitsSigned w128 c.shift_beside.result = omega (arith, ints) in
    let e : c.shift_beside.result ≡ (incline_beside_approach (approach_shape c.args.self.now) c.args.at.now).shift = rw (c.rise-rise.ensures.slope, c.rise-rise.ensures.base) at (simp to_z-of_z at c.shift_beside.ensures.value) in
    (simp to_z-of_z at c.rising.ensures.c) ∙ e
