use Rattle.std.proofs.Common.{FitsSigned, w64, to_z-of_z}
use Rattle.imaginary_surfaces.proofs.strip.Strip.excesses_in.Goals as goal

pub primary_in-requires-clause-skip : goal.primary_in-requires-clause-skip
primary_in-requires-clause-skip c =
    let ft : FitsSigned w64 c.args.top = c.ranges.top in
    rw c.requires.areas.ordered (simp to_z-of_z c.requires.areas.skips.primary_none)

pub approach_in-requires-clause-skip : goal.approach_in-requires-clause-skip
approach_in-requires-clause-skip c =
    let ft : FitsSigned w64 c.args.top = c.ranges.top in
    rw c.requires.areas.ordered (simp to_z-of_z c.requires.areas.skips.approach1_none)

pub approach_in-requires-2-clause-skip : goal.approach_in-requires-2-clause-skip
approach_in-requires-2-clause-skip c =
    let ft : FitsSigned w64 c.args.top = c.ranges.top in
    rw c.requires.areas.ordered (simp to_z-of_z c.requires.areas.skips.approach2_none)

pub beside_primary_in-requires-clause-skip : goal.beside_primary_in-requires-clause-skip
beside_primary_in-requires-clause-skip c =
    let ft : FitsSigned w64 c.args.top = c.ranges.top in
    rw c.requires.areas.ordered (simp to_z-of_z c.requires.areas.skips.beside_primary_none)

pub beside_approach_in-requires-clause-skip : goal.beside_approach_in-requires-clause-skip
beside_approach_in-requires-clause-skip c =
    let ft : FitsSigned w64 c.args.top = c.ranges.top in
    rw c.requires.areas.ordered (simp to_z-of_z c.requires.areas.skips.beside_approach1_none)

pub beside_approach_in-requires-2-clause-skip : goal.beside_approach_in-requires-2-clause-skip
beside_approach_in-requires-2-clause-skip c =
    let ft : FitsSigned w64 c.args.top = c.ranges.top in
    rw c.requires.areas.ordered (simp to_z-of_z c.requires.areas.skips.beside_approach2_none)
