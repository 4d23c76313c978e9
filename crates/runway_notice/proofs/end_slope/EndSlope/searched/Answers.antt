use Rattle.std.proofs.Common.{◌≤ℤ◌, FitsSigned, w64, to_z-of_z, arith}
use Rattle.std.proofs.lemmas.Int.{ints}
use Rattle.runway_notice.proofs.end_slope.EndSlope.searched.Goals as goal

pub returns-clause-least : goal.returns-clause-least
returns-clause-least c =
    let fl : FitsSigned w64 c.lowest.result = omega (arith, ints, c.lowest.ensures.level) in
    let ft : FitsSigned w64 c.args.top = c.ranges.top in
    let fr : FitsSigned w64 c.least_reached.result = omega (arith, ints) in
    λ z h. simp to_z-of_z (c.least_reached.ensures.least z (simp to_z-of_z (c.lowest.ensures.lowest z h)) h)

pub returns-clause-level : goal.returns-clause-level
returns-clause-level c =
    let fl : FitsSigned w64 c.lowest.result = omega (arith, ints, c.lowest.ensures.level) in
    let ft : FitsSigned w64 c.args.top = c.ranges.top in
    let fr : FitsSigned w64 c.least_reached.result = omega (arith, ints) in
    let low : c.lowest.result ≤ℤ c.least_reached.result = simp to_z-of_z at c.least_reached.ensures.from_low in
    let high : c.least_reached.result ≤ℤ c.args.top = simp to_z-of_z at c.least_reached.ensures.to_high in
    simp to_z-of_z (record { low = omega (arith, ints, low, c.lowest.ensures.level.low); high = omega (arith, ints, high, c.requires.top.high) })
