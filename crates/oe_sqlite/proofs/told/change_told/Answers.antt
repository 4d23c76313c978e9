use Rattle.std.proofs.Common.{arith}
use Rattle.sqlite.specs.Held.{state}
use Rattle.sqlite.specs.State.{HasCleanDisk}
use Rattle.oe_keeper.specs.Kept.{rows_after_changes}
use Rattle.oe_sqlite.proofs.Crash.{crash_rows, either}
use Rattle.oe_sqlite.proofs.told.change_told.Goals as goal

pub returns-in_err-apply-clause-held : goal.returns-in_err-apply-clause-held
returns-in_err-apply-clause-held g c held clean up =
    let was : HasCleanDisk (state g.S.Store c.args.conn.now) = omega (arith, c.in_err-apply.ensures.clean) in
    let b = held was (c.in_err-apply.ensures.open clean up) in
    (b.0, c.in_err-apply.ensures.none clean up b.0 b.1)

pub returns-in_err-apply-clause-silent : goal.returns-in_err-apply-clause-silent
returns-in_err-apply-clause-silent g c held now told =
    let clean = told.0 in
    let was : HasCleanDisk (state g.S.Store c.args.conn.now) = omega (arith, c.in_err-apply.ensures.clean) in
    let up = c.in_err-apply.ensures.open clean told.1 in
    let b = held was up in
    (b.0, (was, up, b.1))

pub returns-clause-held : goal.returns-clause-held
returns-clause-held g c held clean up =
    let was : HasCleanDisk (state g.S.Store c.args.conn.now) = omega (arith, c.in_ok-apply.ensures.clean) in
    let b = held was (c.in_ok-apply.ensures.open clean up) in
    (rows_after_changes b.0 c.args.changes.now, c.in_ok-apply.ensures.all clean b.0 b.1)

pub returns-clause-silent : goal.returns-clause-silent
returns-clause-silent g c held now told =
    let clean = told.0 in
    let was : HasCleanDisk (state g.S.Store c.args.conn.now) = omega (arith, c.in_ok-apply.ensures.clean) in
    let up = c.in_ok-apply.ensures.open clean told.1 in
    let b = held was up in
    (b.0, (was, up, b.1))

pub returns-in_err-apply-clause-crash : goal.returns-in_err-apply-clause-crash
returns-in_err-apply-clause-crash g c clean outside before tells db may =
    either (λ old. crash_rows (state g.S.Store c.args.conn.now) before db c.schema-live.ensures.live (c.is_autocommit.ensures.settled c.if-not-is_autocommit.false) tells
    (g.met.S.Store.settled c.args.conn.now.store db tells.1 old))
    (c.in_err-apply.ensures.crash clean (c.schema-live.ensures.live tells.1).0 before tells.2 db may)

pub returns-clause-crash : goal.returns-clause-crash
returns-clause-crash g c clean outside before tells db may =
    either (λ old. crash_rows (state g.S.Store c.args.conn.now) before db c.schema-live.ensures.live (c.is_autocommit.ensures.settled c.if-not-is_autocommit.false) tells
    (g.met.S.Store.settled c.args.conn.now.store db tells.1 old))
    (c.in_ok-apply.ensures.crash clean (c.schema-live.ensures.live tells.1).0 before tells.2 db may)
