use Rattle.std.proofs.Common.{ℤ, ◌-ℤ◌, ◌≤ℤ◌, FitsSigned, w64, to_z-of_z, arith}
use Rattle.std.proofs.lemmas.Int.{ints}
use Rattle.grid_exact.proofs.ExcessLemmas.{exceeds_by}
use Rattle.runway_notice.specs.Distances.{IsAboveRootOf, IsAtLeastRootOf, run_of}
use Rattle.runway_notice.specs.Laws.{above_reaches}
use Rattle.runway_notice.specs.EndSlopes.{whole_fraction}
use Rattle.runway_notice.proofs.end_slope.EndSlope.excess.Goals as goal
use Rattle.runway_notice.proofs.end_slope.EndSlope.excess.Goals.{After-least_level}

-- the top is above the slope, and so not under the least level that reaches it
above : (c : After-least_level) → IsAboveRootOf (whole_fraction c.args.self.now.square) (run_of c.args.self.now.ratio c.args.self.now.base c.args.top)
above c =
    let ft : FitsSigned w64 c.args.top = c.ranges.top in
    simp to_z-of_z at (c.is_exceeded.ensures.0 c.if-not-is_exceeded.false)

ordered : (c : After-least_level) → c.least_level.result ≤ℤ c.args.top
ordered c = c.least_level.ensures.least c.args.top (above_reaches (whole_fraction c.args.self.now.square) (run_of c.args.self.now.ratio c.args.self.now.base c.args.top) (above c))

pub overflow_cast-result : goal.overflow_cast-result
overflow_cast-result c =
    let ft : FitsSigned w64 c.args.top = c.ranges.top in
    let fl : FitsSigned w64 c.least_level.result = omega (arith, ints, c.least_level.ensures.level) in
    let fd : FitsSigned w64 (c.args.top -ℤ c.least_level.result) = omega (arith, ints, c.least_level.ensures.level, c.requires.top) in
    simp to_z-of_z (omega (arith, ints, c.least_level.ensures.level, c.requires.top, ordered c), omega (arith, ints, c.least_level.ensures.level, c.requires.top, ordered c))

pub returns-clause-excess : goal.returns-clause-excess
returns-clause-excess c =
    let l = c.args.self.now in
    let ft : FitsSigned w64 c.args.top = c.ranges.top in
    let fl : FitsSigned w64 c.least_level.result = omega (arith, ints, c.least_level.ensures.level) in
    let fd : FitsSigned w64 (c.args.top -ℤ c.least_level.result) = omega (arith, ints, c.least_level.ensures.level, c.requires.top) in
    simp to_z-of_z (exceeds_by (λ (z : ℤ). IsAboveRootOf (whole_fraction l.square) (run_of l.ratio l.base z)) (λ (z : ℤ). IsAtLeastRootOf (whole_fraction l.square) (run_of l.ratio l.base z)) c.args.top c.least_level.result
    (λ z h. above_reaches (whole_fraction l.square) (run_of l.ratio l.base z) h) (above c) c.least_level.ensures.reached c.least_level.ensures.least)

pub returns-clause-size : goal.returns-clause-size
returns-clause-size c =
    let ft : FitsSigned w64 c.args.top = c.ranges.top in
    let fl : FitsSigned w64 c.least_level.result = omega (arith, ints, c.least_level.ensures.level) in
    let fd : FitsSigned w64 (c.args.top -ℤ c.least_level.result) = omega (arith, ints, c.least_level.ensures.level, c.requires.top) in
    simp to_z-of_z (omega (arith, ints, c.least_level.ensures.level, c.requires.top, ordered c))
