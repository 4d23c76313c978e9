use Rattle.std.proofs.Common.{ℕ, ℤ, ◌-ℤ◌, ◌≤ℤ◌, FitsSigned, w64, to_z-of_z, arith}
use Rattle.std.proofs.lemmas.Int.{ints}
use Rattle.grid_exact.proofs.ExcessLemmas.{exceeds_by}
use Rattle.grid_exact.specs.Root.{AboveRoot, AtLeastRoot}
use Rattle.height_rules.specs.Laws.{reach_above}
use Rattle.height_rules.specs.Limits.{reach_of}
use Rattle.height_rules.specs.declared.limit.TheConstants.{RISE_PER_MILE}
use Rattle.height_rules.proofs.limit.NearLimit.excess.Goals as goal
use Rattle.height_rules.proofs.limit.NearLimit.excess.Goals.{After-least_level}

-- what is above the limit, and what reaches it
abbrev IsOver : ℕ → ℤ → ℤ → Type 0
IsOver d2 base z = AboveRoot (reach_of base z) RISE_PER_MILE d2

abbrev IsAt : ℕ → ℤ → ℤ → Type 0
IsAt d2 base z = AtLeastRoot (reach_of base z) RISE_PER_MILE d2

-- the top is above the limit, and so not under the least level that reaches it
above : (c : After-least_level) → IsOver c.args.self.now.square_distance c.args.self.now.base c.args.top
above c =
    let ft : FitsSigned w64 c.args.top = c.ranges.top in
    simp to_z-of_z at (c.is_exceeded.ensures.0 c.if-not-is_exceeded.false)

ordered : (c : After-least_level) → c.least_level.result ≤ℤ c.args.top
ordered c = c.least_level.ensures.least c.args.top (reach_above (reach_of c.args.self.now.base c.args.top) c.args.self.now.square_distance (above c))

pub overflow_cast-result : goal.overflow_cast-result
overflow_cast-result c =
    let ft : FitsSigned w64 c.args.top = c.ranges.top in
    let fl : FitsSigned w64 c.least_level.result = omega (arith, ints, c.least_level.ensures.level) in
    let fd : FitsSigned w64 (c.args.top -ℤ c.least_level.result) = omega (arith, ints, c.least_level.ensures.level, c.requires.top) in
    simp to_z-of_z (omega (arith, ints, c.least_level.ensures.level, c.requires.top, ordered c), omega (arith, ints, c.least_level.ensures.level, c.requires.top, ordered c))

pub returns-clause-excess : goal.returns-clause-excess
returns-clause-excess c =
    let d2 = c.args.self.now.square_distance in
    let base = c.args.self.now.base in
    let ft : FitsSigned w64 c.args.top = c.ranges.top in
    let fl : FitsSigned w64 c.least_level.result = omega (arith, ints, c.least_level.ensures.level) in
    let fd : FitsSigned w64 (c.args.top -ℤ c.least_level.result) = omega (arith, ints, c.least_level.ensures.level, c.requires.top) in
    simp to_z-of_z (exceeds_by (IsOver d2 base) (IsAt d2 base) c.args.top c.least_level.result (λ z h. reach_above (reach_of base z) d2 h) (above c) c.least_level.ensures.reached c.least_level.ensures.least)
