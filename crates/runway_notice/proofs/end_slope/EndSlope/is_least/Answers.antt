use Rattle.std.proofs.Common.{pos, ◌-ℤ◌, FitsSigned, w64, to_z-of_z, arith}
use Rattle.std.proofs.lemmas.Int.{ints}
use Rattle.grid_exact.proofs.Booleans.{not_from_false}
use Rattle.runway_notice.specs.Distances.{IsAtLeastRootOf, run_of}
use Rattle.runway_notice.specs.EndSlopes.{whole_fraction}
use Rattle.runway_notice.proofs.LimitFacts.{none_under}
use Rattle.runway_notice.proofs.end_slope.EndSlope.is_least.Goals as goal

pub returns-clause-least : goal.returns-clause-least
returns-clause-least c =
    let l = c.args.self.now in
    let g = c.args.level in
    let fg : FitsSigned w64 g = c.ranges.level in
    let f1 : FitsSigned w64 (g -ℤ pos 1) = omega (arith, ints, c.requires.level.low, c.requires.level.high) in
    let unreached : IsAtLeastRootOf (whole_fraction l.square) (run_of l.ratio l.base (g -ℤ pos 1)) → ⊥ = λ q. not_from_false c.is_reached.result c.is_reached.ensures.1 c.if-is_reached.false (simp to_z-of_z q) in
    λ t z h. none_under (whole_fraction l.square) l.ratio l.base g z l.rises.rises unreached h
