use Rattle.std.proofs.Common.{length}
use Rattle.surface_tree.proofs.visit.+entries.Given as goal

abbrev pub decreases-visit_entries : goal.decreases-visit_entries
decreases-visit_entries g l = length l.entries.now
