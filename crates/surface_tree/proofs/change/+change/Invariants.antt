use Rattle.std.proofs.Common.{◌+◌, ◌*◌}
use Rattle.surface_tree.proofs.change.+change.Given as goal

abbrev pub decreases-changed_part : goal.decreases-changed_part
decreases-changed_part g l = 5 * l.square.now.level + 4

abbrev pub decreases-reached_part : goal.decreases-reached_part
decreases-reached_part g l = 5 * l.square.now.level + 3

abbrev pub decreases-changed_own : goal.decreases-changed_own
decreases-changed_own g l = 5 * l.square.now.level + 2

abbrev pub decreases-changed_rest : goal.decreases-changed_rest
decreases-changed_rest g l = 5 * l.square.now.level + 1

abbrev pub decreases-changed_quarters : goal.decreases-changed_quarters
decreases-changed_quarters g l = 5 * l.square.now.level
