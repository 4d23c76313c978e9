use Rattle.std.proofs.Common.{◌+◌, ◌*◌}
use Rattle.surface_tree.proofs.visit.+visit.Given as goal

abbrev pub decreases-visit_part : goal.decreases-visit_part
decreases-visit_part g l = 3 * l.square.now.level + 2

abbrev pub decreases-visit_rest : goal.decreases-visit_rest
decreases-visit_rest g l = 3 * l.square.now.level + 1

abbrev pub decreases-visit_quarters : goal.decreases-visit_quarters
decreases-visit_quarters g l = 3 * l.square.now.level
