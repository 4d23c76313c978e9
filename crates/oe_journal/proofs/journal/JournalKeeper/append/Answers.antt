use Rattle.std.proofs.Common.{◌+◌, ◌-◌, length, drop}
use Rattle.crash_disks.specs.Bytes.{Torn}
use Rattle.crash_disks.specs.Crash.{After}
use Rattle.oe_journal.proofs.Moments.{on_err}
use Rattle.oe_journal.proofs.Gates.{open_image, open_err, open_ok}
use Rattle.oe_journal.proofs.Appending.{block_in, end_after, settled_as, unappended, stays_unappended, lifted_unappended, lifted_appended, while_staged, while_opened}
use Rattle.oe_journal.proofs.journal.JournalKeeper.append.Goals as goal

pub returns-in_err-settle-clause-unappended : goal.returns-in_err-settle-clause-unappended
returns-in_err-settle-clause-unappended g c =
    λ told changes is_frame.
    let d = g.D.Disk in
    let k = c.args.self.now in
    let one = c.settle.new.disk in
    on_err c.from_residual.result (unappended k.end k.to_settle (d.content k.disk) (d.MayLeave k.disk) changes c.settle.new.to_settle (d.content one) (d.MayLeave one) (c.settle.ensures.stays told))

pub returns-in_err-stage-clause-unappended : goal.returns-in_err-stage-clause-unappended
returns-in_err-stage-clause-unappended g c =
    λ told changes is_frame.
    let d = g.D.Disk in
    let k = c.args.self.now in
    let one = c.settle.new.disk in
    let stays = settled_as k.end k.to_settle (d.content k.disk) (d.MayLeave k.disk) c.settle.new.to_settle (d.content one) (d.MayLeave one) c.in_ok-settle.ensures.settled (c.settle.ensures.stays told) in
    let two = c.stage.new.disk in
    on_err c.from_residual-in_err-stage.result
    (stays_unappended k.end k.to_settle (d.content k.disk) (d.MayLeave k.disk) (d.content one) (d.MayLeave one) stays changes c.settle.new.to_settle (d.content two) (d.MayLeave two) c.in_ok-settle.ensures.settled (c.in_err-stage.ensures.stays told))

pub returns-in_err-stage-clause-time : goal.returns-in_err-stage-clause-time
returns-in_err-stage-clause-time g c =
    λ told past changes is_frame.
    let d = g.D.Disk in
    let k = c.args.self.now in
    let one = c.settle.new.disk in
    let stays = settled_as k.end k.to_settle (d.content k.disk) (d.MayLeave k.disk) c.settle.new.to_settle (d.content one) (d.MayLeave one) c.in_ok-settle.ensures.settled (c.settle.ensures.stays told) in
    while_staged k.end k.to_settle (d.content k.disk) (d.MayLeave k.disk) (d.content one) (d.MayLeave one) stays changes (c.settle.ensures.time told past) (c.stage.ensures.time told past)

pub returns-in_err-write_synced-clause-unappended : goal.returns-in_err-write_synced-clause-unappended
returns-in_err-write_synced-clause-unappended g c =
    λ told changes is_frame.
    let d = g.D.Disk in
    let k = c.args.self.now in
    let one = c.settle.new.disk in
    let stays = settled_as k.end k.to_settle (d.content k.disk) (d.MayLeave k.disk) c.settle.new.to_settle (d.content one) (d.MayLeave one) c.in_ok-settle.ensures.settled (c.settle.ensures.stays told) in
    let two = c.stage.new.disk in
    let here = g.met.D.Disk.content_left one told in
    let on_disk = c.in_ok-stage.ensures.staged told in
    let three = c.write_synced.new.disk in
    on_err c.from_residual-in_err-write_synced.result
    (lifted_unappended k.end k.to_settle (d.content k.disk) (d.MayLeave k.disk) (d.content one) (d.MayLeave one) stays changes (d.content three) (d.MayLeave three)
    (open_err k.end (d.content one) (d.MayLeave one) here stays.ready changes (drop 1 c.args.frame.now) (d.content two) (d.MayLeave two) (block_in c.args.frame.now changes is_frame) on_disk (d.content three) (d.MayLeave three) (g.met.D.Disk.content_left three told) (c.write_synced.ensures.crash told)))

pub returns-in_err-write_synced-clause-time : goal.returns-in_err-write_synced-clause-time
returns-in_err-write_synced-clause-time g c =
    λ told past changes is_frame.
    let d = g.D.Disk in
    let k = c.args.self.now in
    let one = c.settle.new.disk in
    let stays = settled_as k.end k.to_settle (d.content k.disk) (d.MayLeave k.disk) c.settle.new.to_settle (d.content one) (d.MayLeave one) c.in_ok-settle.ensures.settled (c.settle.ensures.stays told) in
    let two = c.stage.new.disk in
    while_opened k.end k.to_settle (d.content k.disk) (d.MayLeave k.disk) (d.content one) (d.MayLeave one) stays changes (After (Torn k.end 1) (d.MayLeave two))
    (open_image k.end (d.content one) (d.MayLeave one) (g.met.D.Disk.content_left one told) stays.ready changes (drop 1 c.args.frame.now) (d.content two) (d.MayLeave two) (block_in c.args.frame.now changes is_frame) (c.in_ok-stage.ensures.staged told))
    (c.settle.ensures.time told past) (c.stage.ensures.time told past) (c.write_synced.ensures.time told past)

pub returns-clause-appended : goal.returns-clause-appended
returns-clause-appended g c =
    λ told changes is_frame.
    let d = g.D.Disk in
    let k = c.args.self.now in
    let one = c.settle.new.disk in
    let stays = settled_as k.end k.to_settle (d.content k.disk) (d.MayLeave k.disk) c.settle.new.to_settle (d.content one) (d.MayLeave one) c.in_ok-settle.ensures.settled (c.settle.ensures.stays told) in
    let two = c.stage.new.disk in
    let here = g.met.D.Disk.content_left one told in
    let on_disk = c.in_ok-stage.ensures.staged told in
    let three = c.write_synced.new.disk in
    lifted_appended k.end k.to_settle (d.content k.disk) (d.MayLeave k.disk) (d.content one) (d.MayLeave one) stays changes (c.in_ok-settle.ensures.behind told) (k.end + (length c.args.frame.now - 1)) (d.content three) (d.MayLeave three)
    (open_ok k.end (d.content one) (d.MayLeave one) here stays.ready changes (drop 1 c.args.frame.now) (d.content two) (d.MayLeave two) (block_in c.args.frame.now changes is_frame) on_disk (k.end + (length c.args.frame.now - 1)) (d.content three) (d.MayLeave three) (end_after k.end c.args.frame.now) (c.in_ok-write_synced.ensures.written told) (c.in_ok-write_synced.ensures.durable told))

pub returns-clause-time : goal.returns-clause-time
returns-clause-time g c =
    λ told past changes is_frame.
    let d = g.D.Disk in
    let k = c.args.self.now in
    let one = c.settle.new.disk in
    let stays = settled_as k.end k.to_settle (d.content k.disk) (d.MayLeave k.disk) c.settle.new.to_settle (d.content one) (d.MayLeave one) c.in_ok-settle.ensures.settled (c.settle.ensures.stays told) in
    let two = c.stage.new.disk in
    while_opened k.end k.to_settle (d.content k.disk) (d.MayLeave k.disk) (d.content one) (d.MayLeave one) stays changes (After (Torn k.end 1) (d.MayLeave two))
    (open_image k.end (d.content one) (d.MayLeave one) (g.met.D.Disk.content_left one told) stays.ready changes (drop 1 c.args.frame.now) (d.content two) (d.MayLeave two) (block_in c.args.frame.now changes is_frame) (c.in_ok-stage.ensures.staged told))
    (c.settle.ensures.time told past) (c.stage.ensures.time told past) (c.write_synced.ensures.time told past)
