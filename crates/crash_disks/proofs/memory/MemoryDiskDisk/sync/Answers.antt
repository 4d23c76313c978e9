use Rattle.std.proofs.Common.{subst, sym}
use Rattle.crash_disks.specs.Replay.{Leaves}
use Rattle.crash_disks.specs.Laws.{replay_left}
use Rattle.crash_disks.proofs.memory.MemoryDiskDisk.sync.Goals as goal

pub returns-in-Ok-clause-crash : goal.returns-in-Ok-clause-crash
returns-in-Ok-clause-crash c =
    λ _ x left.
    let d = c.args.self.now in
    let is = subst (λ s. Leaves d.first.items s x) c.in-Ok.ensures.ok left in
    subst (λ l. Leaves d.first.items d.steps.items l) (sym is) (replay_left d.first.items d.steps.items d.ran)
