use Rattle.std.proofs.Common.{FitsSigned, w64, to_z-of_z}
use Rattle.imaginary_surfaces.proofs.approach.ApproachSurface.excesses.Goals as goal

pub returns-clause-over : goal.returns-clause-over
returns-clause-over c =
    let ft : FitsSigned w64 c.args.top = c.ranges.top in
    simp to_z-of_z at c.excess_along.ensures.exact

pub returns-clause-beside : goal.returns-clause-beside
returns-clause-beside c =
    let ft : FitsSigned w64 c.args.top = c.ranges.top in
    simp to_z-of_z at c.excess_beside_along.ensures.exact
