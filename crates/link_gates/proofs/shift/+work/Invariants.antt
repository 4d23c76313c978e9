use Rattle.std.proofs.Common.{length}
use Rattle.link_gates.proofs.shift.+work.Given as goal

abbrev pub decreases-join+arg2 : goal.decreases-join+arg2
decreases-join+arg2 g l = length l.left.now

abbrev pub decreases-join+arg3 : goal.decreases-join+arg3
decreases-join+arg3 g l = length l.right.now

abbrev pub decreases-work_all : goal.decreases-work_all
decreases-work_all g l = length l.shifts.now
