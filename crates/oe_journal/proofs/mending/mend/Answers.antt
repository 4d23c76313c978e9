use Rattle.std.proofs.Common.{◌≡◌, ◌≤◌, length, subst, sym}
use Rattle.crash_disks.specs.Bytes.{Torn}
use Rattle.crash_disks.specs.Crash.{After}
use Rattle.oe_journal.specs.Frames.{rows_of}
use Rattle.oe_journal.proofs.Moments.{passes_as, passes_then, on_ok_both}
use Rattle.oe_journal.proofs.Mended.{reach, end_left, mended}
use Rattle.oe_journal.proofs.mending.mend.Goals as goal

pub write_synced-requires : goal.write_synced-requires
write_synced-requires g c =
    λ told.
    let file = g.D.Disk.content c.args.disk.now in
    subst (λ l. c.args.end ≤ length l) (sym (c.in_ok-cut_behind.ensures.cut told)) (reach file c.args.end (c.requires.place told))

pub returns-clause-mended : goal.returns-clause-mended
returns-clause-mended g c =
    λ told.
    let d = g.D.Disk in
    let file = d.content c.args.disk.now in
    let new = c.write_synced.new.disk in
    on_ok_both c.write_synced.result (λ written durable. mended file c.args.end (c.requires.place told) (d.content c.cut_behind.new.disk) (d.content new) (d.MayLeave new) (c.in_ok-cut_behind.ensures.cut told) written durable)
    (c.write_synced.ensures.written told) (c.write_synced.ensures.durable told)

pub returns-clause-rows : goal.returns-clause-rows
returns-clause-rows g c =
    λ told x left.
    let d = g.D.Disk in
    let file = d.content c.args.disk.now in
    let mid = c.cut_behind.new.disk in
    end_left file c.args.end (c.requires.place told) (d.MayLeave mid) (d.content mid) (c.in_ok-cut_behind.ensures.cut told) (c.in_ok-cut_behind.ensures.durable told) x (c.write_synced.ensures.crash told x left)

pub returns-clause-time : goal.returns-clause-time
returns-clause-time g c =
    λ told past.
    let d = g.D.Disk in
    let old = c.args.disk.now in
    let file = d.content old in
    let mid = c.cut_behind.new.disk in
    let second = passes_as (After (Torn c.args.end 1) (d.MayLeave mid)) (λ x. rows_of x ≡ rows_of file)
    (end_left file c.args.end (c.requires.place told) (d.MayLeave mid) (d.content mid) (c.in_ok-cut_behind.ensures.cut told) (c.in_ok-cut_behind.ensures.durable told)) (c.write_synced.ensures.time told past) in
    passes_then _ _ _ (d.LeftSince old) (d.LeftSince mid) (d.LeftSince c.write_synced.new.disk) (λ x. rows_of x ≡ rows_of file) (c.cut_behind.ensures.time told past) second
