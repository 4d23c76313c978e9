use Rattle.std.proofs.Common.{pos, ◌-ℤ◌, FitsSigned, w64, to_z-of_z, arith}
use Rattle.std.proofs.lemmas.Int.{ints}
use Rattle.grid_exact.specs.Root.{AtLeastRoot}
use Rattle.grid_exact.proofs.Booleans.{not_from_false}
use Rattle.height_rules.specs.Limits.{reach_of}
use Rattle.height_rules.specs.declared.limit.TheConstants.{RISE_PER_MILE}
use Rattle.height_rules.proofs.NearFacts.{none_under}
use Rattle.height_rules.proofs.limit.NearLimit.is_least.Goals as goal

pub returns-clause-least : goal.returns-clause-least
returns-clause-least c =
    let d2 = c.args.self.now.square_distance in
    let base = c.args.self.now.base in
    let g = c.args.level in
    let fg : FitsSigned w64 g = c.ranges.level in
    let f1 : FitsSigned w64 (g -ℤ pos 1) = omega (arith, ints, c.requires.level.low, c.requires.level.high) in
    let unreached : AtLeastRoot (reach_of base (g -ℤ pos 1)) RISE_PER_MILE d2 → ⊥ = λ q. not_from_false c.is_reached.result c.is_reached.ensures.1 c.if-is_reached.false (simp to_z-of_z q) in
    λ t z h. none_under d2 base g z unreached h
