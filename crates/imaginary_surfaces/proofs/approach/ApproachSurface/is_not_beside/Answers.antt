use Rattle.std.proofs.Common.{FitsSigned, w64, to_z-of_z, arith}
use Rattle.std.specs.Int.{w128}
use Rattle.std.proofs.lemmas.Int.{ints}
use Rattle.imaginary_surfaces.proofs.approach.ApproachSurface.is_not_beside.Goals as goal

pub returns : goal.returns
returns c =
    let fo : FitsSigned w128 c.outside.result = omega (arith, ints) in
    let fh : FitsSigned w64 c.half_width.result = omega (arith, ints) in
    rw (c.outside.ensures.value, c.half_width.ensures.value, c.square.ensures.value) at (simp to_z-of_z at c.is_at_most_root.ensures)
