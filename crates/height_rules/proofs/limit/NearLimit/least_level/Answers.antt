use Rattle.std.proofs.Common.{FitsSigned, w64, to_z-of_z, arith}
use Rattle.std.proofs.lemmas.Int.{ints}
use Rattle.height_rules.proofs.limit.NearLimit.least_level.Goals as goal

pub returns-clause-least : goal.returns-clause-least
returns-clause-least c =
    let fl : FitsSigned w64 c.lowest.result = omega (arith, ints, c.lowest.ensures.level) in
    let ft : FitsSigned w64 c.args.top = c.ranges.top in
    let fr : FitsSigned w64 c.least_reached.result = omega (arith, ints) in
    λ z h. simp to_z-of_z (c.least_reached.ensures.least z (simp to_z-of_z (c.lowest.ensures.lowest z h)) h)
