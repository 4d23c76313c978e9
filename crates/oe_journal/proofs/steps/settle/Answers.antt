use Rattle.std.proofs.Common.{false, subst, sym}
use Rattle.crash_disks.specs.Bytes.{Torn}
use Rattle.crash_disks.specs.Crash.{After}
use Rattle.oe_journal.specs.Frames.{rows_of}
use Rattle.oe_journal.specs.Standing.{MayStand, IsReady, StaysReady}
use Rattle.oe_journal.proofs.Moments.{passes_as}
use Rattle.oe_journal.proofs.Images.{holds_behind}
use Rattle.oe_journal.proofs.Gates.{settle_image, settle_err, settle_ok}
use Rattle.oe_journal.proofs.steps.settle.Goals as goal

pub returns-in_err-write_synced-clause-stays : goal.returns-in_err-write_synced-clause-stays
returns-in_err-write_synced-clause-stays g c =
    λ told.
    let d = g.D.Disk in
    let old = c.args.disk.now in
    let new = c.write_synced.new.disk in
    let yes = c.if-to_settle.true in
    let ready = subst (λ b. IsReady (d.content old) (d.MayLeave old) c.args.end b) yes (c.requires.ready told) in
    subst (λ b. StaysReady c.args.end b (d.content old) (d.MayLeave old) b (d.content new) (d.MayLeave new)) (sym yes)
    (settle_err c.args.end (d.content old) (d.MayLeave old) (g.met.D.Disk.content_left old told) ready (d.content new) (d.MayLeave new) (g.met.D.Disk.content_left new told) (c.write_synced.ensures.crash told))

pub returns-in_err-write_synced-clause-time : goal.returns-in_err-write_synced-clause-time
returns-in_err-write_synced-clause-time g c =
    λ told past.
    let d = g.D.Disk in
    let old = c.args.disk.now in
    let yes = c.if-to_settle.true in
    let ready = subst (λ b. IsReady (d.content old) (d.MayLeave old) c.args.end b) yes (c.requires.ready told) in
    passes_as (After (Torn c.args.end 1) (d.MayLeave old)) (λ x. MayStand c.args.to_settle.now c.args.end (d.MayLeave old) (rows_of x))
    (λ x from. subst (λ b. MayStand b c.args.end (d.MayLeave old) (rows_of x)) (sym yes) (settle_image c.args.end (d.content old) (d.MayLeave old) (g.met.D.Disk.content_left old told) ready x from)) (c.write_synced.ensures.time told past)

pub returns-in_ok-write_synced-clause-stays : goal.returns-in_ok-write_synced-clause-stays
returns-in_ok-write_synced-clause-stays g c =
    λ told.
    let d = g.D.Disk in
    let old = c.args.disk.now in
    let new = c.write_synced.new.disk in
    let yes = c.if-to_settle.true in
    let ready = subst (λ b. IsReady (d.content old) (d.MayLeave old) c.args.end b) yes (c.requires.ready told) in
    subst (λ b. StaysReady c.args.end b (d.content old) (d.MayLeave old) false (d.content new) (d.MayLeave new)) (sym yes)
    (settle_ok c.args.end (d.content old) (d.MayLeave old) (g.met.D.Disk.content_left old told) ready (d.content new) (d.MayLeave new) (c.in_ok-write_synced.ensures.written told) (c.in_ok-write_synced.ensures.durable told))

pub returns-in_ok-write_synced-clause-time : goal.returns-in_ok-write_synced-clause-time
returns-in_ok-write_synced-clause-time g c =
    λ told past.
    let d = g.D.Disk in
    let old = c.args.disk.now in
    let yes = c.if-to_settle.true in
    let ready = subst (λ b. IsReady (d.content old) (d.MayLeave old) c.args.end b) yes (c.requires.ready told) in
    passes_as (After (Torn c.args.end 1) (d.MayLeave old)) (λ x. MayStand c.args.to_settle.now c.args.end (d.MayLeave old) (rows_of x))
    (λ x from. subst (λ b. MayStand b c.args.end (d.MayLeave old) (rows_of x)) (sym yes) (settle_image c.args.end (d.content old) (d.MayLeave old) (g.met.D.Disk.content_left old told) ready x from)) (c.write_synced.ensures.time told past)

pub returns-in_ok-write_synced-clause-behind : goal.returns-in_ok-write_synced-clause-behind
returns-in_ok-write_synced-clause-behind g c =
    λ told.
    let d = g.D.Disk in
    let old = c.args.disk.now in
    let long = (c.requires.ready told).long (d.content old) (g.met.D.Disk.content_left old told) in
    holds_behind c.args.end (d.content old) long 0 (d.content c.write_synced.new.disk) (c.in_ok-write_synced.ensures.written told)
