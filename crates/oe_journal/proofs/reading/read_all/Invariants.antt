use Rattle.std.proofs.Common.{◌≡◌, ◌≤◌, ◌-◌, length, take}
use Rattle.crash_disks.specs.Crash.{Stays, Passes}
use Rattle.oe_journal.proofs.reading.read_all.Given as goal

abbrev pub invariant-pieces : goal.invariant-pieces
invariant-pieces g l = record {
  front : g.D.Disk.IsTold → l.file.items ≡ take (length l.file.items) (g.D.Disk.content l.fn.disk);
  content : g.D.Disk.IsTold → g.D.Disk.content l.disk ≡ g.D.Disk.content l.fn.disk;
  crash : g.D.Disk.IsTold → Stays (g.D.Disk.MayLeave l.fn.disk) (g.D.Disk.MayLeave l.disk);
  time : g.D.Disk.IsTold → g.D.Disk.TellsPast → Passes (g.D.Disk.moment l.fn.disk) (g.D.Disk.moment l.disk) (g.D.Disk.LeftSince l.fn.disk) (g.D.Disk.LeftSince l.disk) (g.D.Disk.MayLeave l.fn.disk);
  counted : g.D.Disk.faults l.fn.disk ≤ g.D.Disk.faults l.disk;
}

abbrev pub decreases-pieces : goal.decreases-pieces
decreases-pieces g l = l.size - length l.file.items
