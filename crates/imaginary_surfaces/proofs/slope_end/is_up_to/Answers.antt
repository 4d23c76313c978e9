use Rattle.std.proofs.Common.{◌≡◌, FitsSigned, w64, to_z-of_z, neg_ℤ, false, int_le}
use Rattle.grid_exact.specs.declared.level.TheConstants.{LEVEL_LIMIT}
use Rattle.grid_exact.proofs.SlopeLemmas.{slope_low}
use Rattle.grid_exact.proofs.TestFacts.{le_out}
use Rattle.imaginary_surfaces.proofs.slope_end.is_up_to.Goals as goal

-- below the range nothing is reached
pub returns-else-level : goal.returns-else-level
returns-else-level c =
    let s = c.args.slope.now in
    let fl : FitsSigned w64 c.args.level = c.ranges.level in
    let f : int_le (neg_ℤ LEVEL_LIMIT) c.args.level ≡ false = simp to_z-of_z at c.if-level.false in
    simp to_z-of_z (λ t. absurd (cc), λ r. le_out (neg_ℤ LEVEL_LIMIT) c.args.level (slope_low s.a s.k s.c s.n c.args.level s.sound r))
