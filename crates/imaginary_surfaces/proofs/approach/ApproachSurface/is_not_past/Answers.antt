use Rattle.std.proofs.Common.{FitsSigned, w64, to_z-of_z, arith}
use Rattle.std.specs.Int.{w128}
use Rattle.std.proofs.lemmas.Int.{ints}
use Rattle.imaginary_surfaces.proofs.approach.ApproachSurface.is_not_past.Goals as goal

pub returns : goal.returns
returns c =
    let l = c.args.self.now.class.length in
    let sized = c.args.self.now.sound.sized in
    let fl : FitsSigned w64 l = omega (arith, ints, sized.length_least, sized.length_most) in
    let fa : FitsSigned w128 c.along.result = omega (arith, ints) in
    rw (c.along.ensures.value, c.square.ensures.value) at (simp to_z-of_z at c.is_at_most_root.ensures)
