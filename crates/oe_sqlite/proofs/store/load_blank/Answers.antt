use Rattle.std.proofs.Common.{sym, subst, arith, Result, Ok, Err}
use Rattle.std.specs.Prelude.{IfOk}
use Rattle.std.specs.FinMap as maps
use Rattle.sqlite.specs.Held.{state}
use Rattle.sqlite.specs.State.{HasCleanDisk}
use Rattle.oe_sqlite.specs.Model.{Holds}
use Rattle.oe_sqlite.proofs.store.load_blank.Goals as goal

if_ok : {T E : Type 0} {P Q : T → Type 0} (r : Result T E) → ((x : T) → P x → Q x) → IfOk r P → IfOk r Q
if_ok (Ok x) f h = f x h
if_ok (Err e) f h = h

pub returns-clause-told : goal.returns-clause-told
returns-clause-told g c clean up =
    let before : HasCleanDisk (state g.S.Store c.create.new.conn) = omega (arith, c.load_rows.ensures.clean) in
    let made = c.in_ok-create.ensures.makes before c.requires in
    if_ok c.load_rows.result (λ rows is. subst (Holds (state g.S.Store c.load_rows.new.conn)) (is maps.empty made) (c.load_rows.ensures.still clean up maps.empty made)) (c.load_rows.ensures.rows clean)

pub returns-clause-none : goal.returns-clause-none
returns-clause-none g c clean =
    let before : HasCleanDisk (state g.S.Store c.create.new.conn) = omega (arith, c.load_rows.ensures.clean) in
    if_ok c.load_rows.result (λ rows is. sym (is maps.empty (c.in_ok-create.ensures.makes before c.requires))) (c.load_rows.ensures.rows clean)
