use Rattle.std.proofs.Common.{◌≡◌, ◌+◌, length, arith}
use Rattle.crash_disks.specs.Bytes.{Cut}
use Rattle.crash_disks.specs.Crash.{After}
use Rattle.oe_journal.specs.Frames.{rows_of}
use Rattle.oe_journal.proofs.Moments.{passes_as}
use Rattle.oe_journal.proofs.Mended.{within, cut_left, bool_some}
use Rattle.oe_journal.proofs.mending.cut_behind.Goals as goal

pub cut_synced-requires : goal.cut_synced-requires
cut_synced-requires g c =
    λ told.
    let file = g.D.Disk.content c.args.disk.now in
    let some = bool_some (length file) c.args.is_empty (c.requires.empty told) c.if-not-is_empty.true in
    let w = within file c.args.end (c.requires.place told) some in
    omega arith

pub returns-in_err-cut_synced-clause-rows : goal.returns-in_err-cut_synced-clause-rows
returns-in_err-cut_synced-clause-rows g c =
    λ told x left.
    let d = g.D.Disk in
    let old = c.args.disk.now in
    cut_left (d.content old) c.args.end (c.requires.place told) (d.MayLeave old) (c.requires.durable told) x (c.cut_synced.ensures.crash told x left)

pub returns-in_err-cut_synced-clause-time : goal.returns-in_err-cut_synced-clause-time
returns-in_err-cut_synced-clause-time g c =
    λ told past.
    let d = g.D.Disk in
    let old = c.args.disk.now in
    passes_as (After (Cut (c.args.end + 1)) (d.MayLeave old)) (λ x. rows_of x ≡ rows_of (d.content old)) (cut_left (d.content old) c.args.end (c.requires.place told) (d.MayLeave old) (c.requires.durable told)) (c.cut_synced.ensures.time told past)

pub returns-in_ok-cut_synced-clause-rows : goal.returns-in_ok-cut_synced-clause-rows
returns-in_ok-cut_synced-clause-rows g c =
    λ told x left.
    let d = g.D.Disk in
    let old = c.args.disk.now in
    cut_left (d.content old) c.args.end (c.requires.place told) (d.MayLeave old) (c.requires.durable told) x (c.cut_synced.ensures.crash told x left)

pub returns-in_ok-cut_synced-clause-time : goal.returns-in_ok-cut_synced-clause-time
returns-in_ok-cut_synced-clause-time g c =
    λ told past.
    let d = g.D.Disk in
    let old = c.args.disk.now in
    passes_as (After (Cut (c.args.end + 1)) (d.MayLeave old)) (λ x. rows_of x ≡ rows_of (d.content old)) (cut_left (d.content old) c.args.end (c.requires.place told) (d.MayLeave old) (c.requires.durable told)) (c.cut_synced.ensures.time told past)
