use Rattle.std.proofs.Common.{sym, ap, subst}
use Rattle.sqlite.specs.Held.{state}
use Rattle.oe_sqlite.specs.Model.{AreKept, tables_in}
use Rattle.oe_sqlite.proofs.Loads.{creates, stays, none_kept}
use Rattle.oe_sqlite.proofs.store.create.Goals as goal

pub returns-clause-makes : goal.returns-clause-makes
returns-clause-makes g c clean has =
    let made = creates (state g.S.Store c.args.conn.now) (state g.S.Store c.execute.new.self) c.in_ok-execute.field-0 has (c.in_ok-execute.ensures.runs clean) in
    record { schema = made.0; rows = subst AreKept (sym made.1) none_kept; are = ap tables_in made.1 }

pub returns-clause-stays : goal.returns-clause-stays
returns-clause-stays g c clean has =
    stays (state g.S.Store c.args.conn.now) (state g.S.Store c.execute.new.self) c.in_ok-execute.field-0 has (c.in_ok-execute.ensures.runs clean)
