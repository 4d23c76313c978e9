use Rattle.std.proofs.Common.{IsTrue, not, ap, subst, ◌∙◌}
use Rattle.std.proofs.Math.Logic.{∥∥₁_map}
use Rattle.oe_sqlite.proofs.Left.{left_database, crash_files}
use Rattle.oe_sqlite.proofs.leave.leave_rows.Goals as goal

pub returns-clause-before : goal.returns-clause-before
returns-clause-before g c clean outside rows tells =
    crash_files c.args.conn c.args.conn.store rows g.met.D.Disk.seen_may_stay tells c.schema-live.ensures.live
    (c.is_autocommit-settled.ensures.settled (c.is_autocommit-settled.ensures.value ∙ ap not outside)) (λ db found. found) tells.0
    (subst IsTrue c.into_store.ensures.undone.numbered (c.into_store.ensures.numbered clean))

pub returns-clause-after : goal.returns-clause-after
returns-clause-after g c clean outside rows tells =
    crash_files c.args.conn c.into_store.result rows g.met.D.Disk.seen_may_stay tells c.schema-live.ensures.live
    (c.is_autocommit-settled.ensures.settled (c.is_autocommit-settled.ensures.value ∙ ap not outside)) c.into_store.ensures.quiet.outcomes clean
    (c.into_store.ensures.numbered clean)

pub returns-clause-found : goal.returns-clause-found
returns-clause-found g c clean image may =
    ∥∥₁_map (left_database c.into_store.result clean (c.into_store.ensures.numbered clean) (c.into_store.ensures.sound clean) image may)
    (λ it. (it.0, c.into_store.ensures.quiet.outcomes it.0 it.1, it.2))
