use Rattle.std.proofs.Common.{◌≡◌, ◌≤◌, IsTrue, take}
use Rattle.sqlite.specs.Held.{state}
use Rattle.sqlite.specs.Effect.{IsDatabase}
use Rattle.sqlite.specs.State.{HasCleanDisk, KeepsCommit}
use Rattle.sqlite_trees.specs.Tree.{Trees}
use Rattle.sqlite_trees.specs.View.{doubt}
use Rattle.oe_sqlite.specs.Model.{Holds}
use Rattle.oe_keeper.specs.Kept.{Kept, rows_after_changes}
use Rattle.oe_sqlite.proofs.transaction.change_all.Given as goal

abbrev pub invariant-changes : goal.invariant-changes
invariant-changes g l =
    let old = state g.S.Store l.fn.tx.conn.now in
    let now = state g.S.Store l.tx.conn.now in
    (l.tx.conn.ghost_name ≡ l.fn.tx.conn.ghost_name) × (doubt old.is_clean ≤ doubt now.is_clean)
    × (HasCleanDisk now → IsTrue old.in_transaction → IsTrue now.in_transaction × KeepsCommit old now × ((tables : Kept) → Holds old tables → Holds now (rows_after_changes tables (take l.it-index l.changes)))
    × ((tables : Kept) → Holds old tables → IsDatabase old.now → IsDatabase now.now))
    × (HasCleanDisk now → (db : Trees) → now.may_leave db → old.may_leave db)
