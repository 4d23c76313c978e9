use Rattle.std.proofs.Common.{arith}
use Rattle.sqlite.specs.Held.{state}
use Rattle.sqlite.specs.State.{HasCleanDisk}
use Rattle.oe_sqlite.proofs.Crash.{crash_rows}
use Rattle.oe_sqlite.proofs.told.load_again.Goals as goal

pub returns-clause-held : goal.returns-clause-held
returns-clause-held g c held clean up =
    let was : HasCleanDisk (state g.S.Store c.args.conn.now) = omega (arith, c.load_rows.ensures.clean) in
    let b = held was (c.load_rows.ensures.open clean up) in
    (b.0, c.load_rows.ensures.still clean up b.0 b.1)

pub returns-clause-silent : goal.returns-clause-silent
returns-clause-silent g c held now told =
    let clean = told.0 in
    let was : HasCleanDisk (state g.S.Store c.args.conn.now) = omega (arith, c.load_rows.ensures.clean) in
    let up = c.load_rows.ensures.open clean told.1 in
    let b = held was up in
    (b.0, (was, up, b.1))

pub returns-clause-crash : goal.returns-clause-crash
returns-clause-crash g c clean outside before tells db may =
    crash_rows (state g.S.Store c.args.conn.now) before db c.schema-live.ensures.live (c.is_autocommit.ensures.settled c.if-not-is_autocommit.false) tells
    (g.met.S.Store.settled c.args.conn.now.store db tells.1 (c.load_rows.ensures.crash clean before tells.2 db may))
