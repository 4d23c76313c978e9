use Rattle.std.proofs.Common.{◌≤◌, ◌*◌, FitsSigned, to_z-of_z, arith}
use Rattle.std.specs.Int.{w128}
use Rattle.std.proofs.lemmas.Nat.{mul-le}
use Rattle.std.proofs.lemmas.Int.{ints}
use Rattle.heliport_surfaces.specs.Shapes.{gap_shape}
use Rattle.heliport_surfaces.proofs.Corners.{close_aside}
use Rattle.heliport_surfaces.proofs.gap.LandingGap.edge.Goals as goal

pub returns-clause-size : goal.returns-clause-size
returns-clause-size c =
    let g = gap_shape c.args.self.now in
    let sized = c.args.self.now.sized in
    let f : FitsSigned w128 c.signed.result = omega (arith, ints) in
    let aside : g.aside ≤ 525000000 = close_aside g sized.square_size sized.width_size c.requires.close in
    let m : g.aside * g.width ≤ 525000000 * 5000 = mul-le g.aside g.width 525000000 5000 aside sized.width_size in
    simp to_z-of_z (omega (arith, ints, c.signed.ensures, m))
