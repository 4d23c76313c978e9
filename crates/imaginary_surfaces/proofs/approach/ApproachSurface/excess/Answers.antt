use Rattle.std.proofs.Common.{FitsSigned, w64, to_z-of_z}
use Rattle.imaginary_surfaces.proofs.approach.ApproachSurface.excess.Goals as goal

pub returns-clause-exact : goal.returns-clause-exact
returns-clause-exact c =
    let ft : FitsSigned w64 c.args.top = c.ranges.top in
    simp to_z-of_z at c.excess_along.ensures.exact
