use Rattle.std.proofs.Common.{◌-◌, length}
use Rattle.oe_journal.proofs.FileLoop.{Shows}
use Rattle.oe_journal.proofs.frames.rows_in.Given as goal

abbrev pub invariant-frames : goal.invariant-frames
invariant-frames l = Shows l.file l.end l.tables

abbrev pub decreases-frames : goal.decreases-frames
decreases-frames l = length l.file - l.end
