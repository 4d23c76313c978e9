use Rattle.std.proofs.Common.{◌+◌, ℕ, List, drop, subst}
use Rattle.std.proofs.lemmas.List.{take_rest}
use Rattle.crash_disks.specs.Bytes.{Holds, Torn}
use Rattle.crash_disks.specs.Crash.{After}
use Rattle.oe_journal.specs.Frames.{rows_of}
use Rattle.oe_journal.specs.Standing.{MayStand}
use Rattle.oe_journal.proofs.Moments.{passes_as, on_ok_both, on_err}
use Rattle.oe_journal.proofs.Gates.{stage_image, stage_err, stage_ok}
use Rattle.std.proofs.Common.{false}
use Rattle.oe_journal.proofs.steps.stage.Goals as goal

pub returns-clause-staged : goal.returns-clause-staged
returns-clause-staged g c =
    λ told.
    let d = g.D.Disk in
    let old = c.args.disk.now in
    let new = c.write_synced.new.disk in
    on_ok_both c.write_synced.result
    (λ written durable. stage_ok c.args.end (d.content old) (d.MayLeave old) (g.met.D.Disk.content_left old told) (c.requires.ready told) (drop 1 c.args.frame.now) (d.content new) (d.MayLeave new)
    (subst (λ (b : List ℕ). Holds (d.content old) (c.args.end + 1) b (d.content new)) (take_rest c.args.frame.now 1) written) durable) (c.write_synced.ensures.written told) (c.write_synced.ensures.durable told)

pub returns-clause-stays : goal.returns-clause-stays
returns-clause-stays g c =
    λ told.
    let d = g.D.Disk in
    let old = c.args.disk.now in
    let new = c.write_synced.new.disk in
    on_err c.write_synced.result
    (stage_err c.args.end (d.content old) (d.MayLeave old) (g.met.D.Disk.content_left old told) (c.requires.ready told) _ (d.content new) (d.MayLeave new) (g.met.D.Disk.content_left new told) (c.write_synced.ensures.crash told))

pub returns-clause-time : goal.returns-clause-time
returns-clause-time g c =
    λ told past.
    let d = g.D.Disk in
    let old = c.args.disk.now in
    passes_as (After (Torn (c.args.end + 1) _) (d.MayLeave old)) (λ x. MayStand false c.args.end (d.MayLeave old) (rows_of x))
    (λ x from. stage_image c.args.end (d.content old) (d.MayLeave old) (g.met.D.Disk.content_left old told) (c.requires.ready told) _ x from) (c.write_synced.ensures.time told past)
