use Rattle.std.proofs.Common.{◌-◌, length}
use Rattle.crash_disks.proofs.Crashes.{IsImage}
use Rattle.crash_disks.proofs.crash.left_by.Given as goal

abbrev pub invariant-steps : goal.invariant-steps
invariant-steps l = IsImage l.first l.steps.items l.older l.left.items l.read.items

abbrev pub decreases-steps : goal.decreases-steps
decreases-steps l = length l.steps.items - l.older
