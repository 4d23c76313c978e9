use Rattle.std.proofs.Common.{ap, ◌∙◌}
use Rattle.std.specs.FinMap as map
use Rattle.sqlite.specs.Held.{state}
use Rattle.oe_keeper.specs.Kept.{place}
use Rattle.oe_keeper.specs.declared.change.Table.{Table}
use Rattle.oe_keeper.specs.declared.change.Table.TheVariants.{Airfield, Runway, Desk, Filing, Receipt}
use Rattle.oe_sqlite.proofs.Puts.{puts_row}
use Rattle.std.proofs.Common.{◌≡◌, ℕ, ◌<◌, ◌^◌, pos, arith, w64, to_z, of_z}
use Rattle.std.proofs.lemmas.Int.{to_z-of_z}
use Rattle.oe_sqlite.proofs.Crash.{put_sound}
use Rattle.oe_sqlite.proofs.transaction.put.Goals as goal

small_back : (n : ℕ) → n < 2 ^ 8 → to_z w64 (of_z w64 (pos n)) ≡ pos n
small_back n low = to_z-of_z w64 (pos n) (omega arith)

low : (table : Table) → place table < 2 ^ 8
low Airfield = omega arith
low Runway = omega arith
low Desk = omega arith
low Filing = omega arith
low Receipt = omega arith

pub returns-clause-puts : goal.returns-clause-puts
returns-clause-puts g c clean within tables holds =
    let old = state g.S.Store c.args.tx.now.conn.now in
    let new = state g.S.Store c.execute.new.self.conn.now in
    let ran = c.in_ok-execute.ensures.runs clean within in
    let it = puts_row (place c.args.table) c.args.key.now c.args.row.now old new c.in_ok-execute.field-0 holds.schema holds.rows
    (rw (c.params-to_sql.ensures, c.params-to_sql-2.ensures, c.params-to_sql-3.ensures, c.number-t.ensures, small_back (place c.args.table) (low c.args.table)) at ran.0) in
    record { schema = it.0; rows = it.1; are = it.2 ∙ ap (λ m. map.insert m (place c.args.table, c.args.key.now) c.args.row.now) holds.are }

pub returns-clause-sound : goal.returns-clause-sound
returns-clause-sound g c clean within tables holds =
    let ran = c.in_ok-execute.ensures.runs clean within in
    put_sound _ (state g.S.Store c.args.tx.now.conn.now) (state g.S.Store c.execute.new.self.conn.now) c.in_ok-execute.field-0 holds.schema ran.0
