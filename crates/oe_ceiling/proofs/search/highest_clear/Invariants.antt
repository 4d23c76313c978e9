use Rattle.std.proofs.Common.{ℕ, ◌+◌}
use Rattle.surface_tree.specs.declared.square.TheConstants.{TOP_LEVEL}
use Rattle.oe_findings.specs.Nearness.{AreNear}
use Rattle.oe_ceiling.specs.Searches.{AreCounted, IsNarrowed}
use Rattle.oe_ceiling.proofs.search.highest_clear.Given as goal

abbrev pub invariant-loop-left : goal.invariant-loop-left
invariant-loop-left g l = record {
  narrowed : IsNarrowed l.sky l.filing l.left l.height;
  counted : (n : ℕ) → AreNear l.sky l.filing.at n → AreCounted (TOP_LEVEL + 1 + n) l.initial.steps l.steps l.left;
}

abbrev pub decreases-loop-left : goal.decreases-loop-left
decreases-loop-left g l = l.left
