use Rattle.std.proofs.Common.{FitsSigned, w64, to_z-of_z, arith}
use Rattle.std.proofs.lemmas.Int.{ints}
use Rattle.imaginary_surfaces.proofs.search.least_level.Goals as goal

pub returns-clause-least : goal.returns-clause-least
returns-clause-least c =
    let fl : FitsSigned w64 c.least_possible-low.result = omega (arith, ints, c.least_possible-low.ensures.level) in
    let fr : FitsSigned w64 c.least_reached.result = omega (arith, ints, c.least_reached.ensures.from_low, c.least_reached.ensures.to_high, c.reached_level-high.ensures.level, c.least_possible-low.ensures.level) in
    λ z h. simp to_z-of_z (c.least_reached.ensures.least z (simp to_z-of_z (c.least_possible-low.ensures.lowest z h)) h)
