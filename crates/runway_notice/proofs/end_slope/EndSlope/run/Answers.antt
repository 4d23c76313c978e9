use Rattle.std.proofs.Common.{◌≡◌, ℤ, ◌≤◌, ◌^◌, ◌*ℤ◌, ◌-ℤ◌, unsigned_abs, FitsSigned, w64, to_z, of_z, to_z-of_z, arith, refl}
use Rattle.std.proofs.lemmas.Int.{ints}
use Rattle.grid_exact.specs.Level.{IsLevel}
use Rattle.runway_notice.specs.Distances.{IsSlopeFrom, run_of}
use Rattle.runway_notice.proofs.LimitFacts.{run_size}
use Rattle.runway_notice.proofs.end_slope.EndSlope.run.Goals as goal

computed : (ratio base level : ℤ) → IsSlopeFrom base ratio → IsLevel level →
    to_z w64 (of_z w64 (to_z w64 (of_z w64 ratio) *ℤ to_z w64 (of_z w64 (to_z w64 (of_z w64 level) -ℤ to_z w64 (of_z w64 base))))) ≡ run_of ratio base level
computed ratio base level s l =
    let fr : FitsSigned w64 ratio = omega (arith, ints, s.rises, s.ratio_size) in
    let fb : FitsSigned w64 base = omega (arith, ints, s.base_size) in
    let fl : FitsSigned w64 level = omega (arith, ints, l.low, l.high) in
    let fd : FitsSigned w64 (level -ℤ base) = omega (arith, ints, s.base_size, l.low, l.high) in
    let size : unsigned_abs (run_of ratio base level) ≤ 2 ^ 40 = run_size ratio base level s l in
    let fp : FitsSigned w64 (ratio *ℤ (level -ℤ base)) = omega (arith, ints, size) in
    simp to_z-of_z refl

pub returns-clause-value : goal.returns-clause-value
returns-clause-value c = computed c.args.self.now.ratio c.args.self.now.base c.args.level c.args.self.now.rises c.requires

pub returns-clause-size : goal.returns-clause-size
returns-clause-size c =
    rw (computed c.args.self.now.ratio c.args.self.now.base c.args.level c.args.self.now.rises c.requires)
    (run_size c.args.self.now.ratio c.args.self.now.base c.args.level c.args.self.now.rises c.requires)
