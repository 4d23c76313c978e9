use Rattle.std.proofs.Common.{◌*◌, pos, FitsSigned, to_z-of_z, arith}
use Rattle.std.specs.Int.{w128}
use Rattle.std.proofs.lemmas.Int.{ints}
use Rattle.imaginary_surfaces.proofs.TransitionFacts.{from_side_positive}
use Rattle.imaginary_surfaces.proofs.primary.PrimarySurface.slope_beside.Goals as goal

pub rising-requires-clause-positive : goal.rising-requires-clause-positive
rising-requires-clause-positive c =
    let s = c.args.self.now in
    let o = c.args.at.now in
    let ft : FitsSigned w128 c.twice_aside.result = omega (arith, ints) in
    simp to_z-of_z (rw c.twice_aside.ensures.value (from_side_positive (pos (2 * o.aside)) s.width o.square s.wide.least c.square.ensures.line.some c.requires.reaches.from_side))
