use Rattle.std.proofs.Common.{ap, ◌∙◌, not, Result, Ok, Err}
use Rattle.std.specs.Prelude.{IfOk}
use Rattle.sqlite.specs.Held.{state}
use Rattle.oe_sqlite.proofs.Reading.{holds_over, same_now, were_open, query_failed, shown_open, shown_still, rows_are}
use Rattle.oe_sqlite.proofs.Crash.{read_leaves}
use Rattle.oe_sqlite.proofs.store.load_rows.Goals as goal

if_ok : {T E : Type 0} {P Q : T → Type 0} (r : Result T E) → ((x : T) → P x → Q x) → IfOk r P → IfOk r Q
if_ok (Ok x) f h = f x h
if_ok (Err e) f h = h

pub returns-in_err-rows-clause-still : goal.returns-in_err-rows-clause-still
returns-in_err-rows-clause-still g c clean up tables holds =
    holds_over (state g.S.Store c.args.conn.now) (state g.S.Store c.query_all.new.self) tables
    (same_now _ _ (query_failed _ _ (state g.S.Store c.args.conn.now) (state g.S.Store c.query_all.new.self) _ (c.in_err-rows.ensures.err clean)) up (c.is_autocommit-settled.ensures.settled (c.is_autocommit-settled.ensures.value ∙ ap not c.requires))) holds

pub returns-in_err-rows-clause-open : goal.returns-in_err-rows-clause-open
returns-in_err-rows-clause-open g c clean up = were_open _ _ (query_failed _ _ (state g.S.Store c.args.conn.now) (state g.S.Store c.query_all.new.self) _ (c.in_err-rows.ensures.err clean)) up

pub returns-clause-rows : goal.returns-clause-rows
returns-clause-rows g c clean =
    if_ok c.tables_of.result (λ answer is tables holds. rows_are (state g.S.Store c.args.conn.now) (state g.S.Store c.query_all.new.self) c.in_ok-rows.rows.items c.as_slice.result.now answer tables (c.in_ok-rows.ensures.ok clean) c.as_slice.ensures.value is holds) c.tables_of.ensures

pub returns-clause-still : goal.returns-clause-still
returns-clause-still g c clean up tables holds =
    holds_over (state g.S.Store c.args.conn.now) (state g.S.Store c.query_all.new.self) tables (shown_still (state g.S.Store c.args.conn.now) (state g.S.Store c.query_all.new.self) c.in_ok-rows.rows.items holds.schema (c.in_ok-rows.ensures.ok clean)).0.now_is holds

pub returns-clause-open : goal.returns-clause-open
returns-clause-open g c clean up = shown_open _ _ (state g.S.Store c.args.conn.now) (state g.S.Store c.query_all.new.self) _ (c.in_ok-rows.ensures.ok clean)

pub returns-in_err-rows-clause-crash : goal.returns-in_err-rows-clause-crash
returns-in_err-rows-clause-crash g c clean tables holds db may = read_leaves (state g.S.Store c.args.conn.now) db holds.schema (c.in_err-rows.ensures.survives.crash clean db may)

pub returns-clause-crash : goal.returns-clause-crash
returns-clause-crash g c clean tables holds db may = read_leaves (state g.S.Store c.args.conn.now) db holds.schema (c.in_ok-rows.ensures.survives.crash clean db may)
