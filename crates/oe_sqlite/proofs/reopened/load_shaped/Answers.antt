use Rattle.std.proofs.Common.{◌≡◌, IsTrue, refl, sym, subst, ◌∙◌, arith}
use Rattle.sqlite.specs.Held.{state}
use Rattle.sqlite.specs.Effect.{IsDatabase}
use Rattle.sqlite.specs.State.{State, HasCleanDisk}
use Rattle.sqlite_trees.specs.Tree.{rowid}
use Rattle.sqlite_trees.specs.View.{IsShaped, is_int}
use Rattle.sqlite_trees.specs.declared.store.Shape.TheVariants.{Table}
use Rattle.sqlite_rules.proofs.ListLemmas.{all_has}
use Rattle.oe_sqlite.specs.Model.{Holds, AreKept, tables_in}
use Rattle.oe_sqlite.specs.Shape.{kept_schema}
use Rattle.oe_sqlite.proofs.Sound.{are_kept}
use Rattle.oe_sqlite.proofs.reopened.load_shaped.Goals as goal

rows_held : (s : State) → s.now.schema ≡ kept_schema → IsDatabase s.now → IsShaped Table (s.now.trees 0) → Holds s (tables_in (s.now.trees 0))
rows_held s has sound shaped =
    let kept : AreKept (s.now.trees 0) = are_kept s.now has sound shaped.0 (λ x h. all_has (λ r. IsTrue (is_int (rowid r))) (s.now.trees 0) x shaped.1 h) in
    record { schema = has; rows = kept; are = refl }

pub returns-clause-told : goal.returns-clause-told
returns-clause-told g c clean up told =
    let s = state g.S.Store c.args.conn.now in
    let was : HasCleanDisk s = omega (arith, c.in_ok-tables.ensures.clean) in
    let has : s.now.schema ≡ kept_schema = sym c.schema.ensures.value ∙ c.has_shape-is_told.ensures.0 told in
    let live = c.schema.ensures.live (c.in_ok-tables.ensures.open clean up) in
    let holds = rows_held s has live.0 (c.requires was has) in
    subst (Holds (state g.S.Store c.load_rows.new.conn)) (c.in_ok-tables.ensures.rows clean _ holds) (c.in_ok-tables.ensures.still clean up _ holds)

pub returns-clause-was : goal.returns-clause-was
returns-clause-was g c has = c.has_shape-is_told.ensures.1 (c.schema.ensures.value ∙ has)

pub returns-clause-rows : goal.returns-clause-rows
returns-clause-rows g c clean up has =
    let s = state g.S.Store c.args.conn.now in
    let was : HasCleanDisk s = omega (arith, c.in_ok-tables.ensures.clean) in
    let live = c.schema.ensures.live (c.in_ok-tables.ensures.open clean up) in
    c.in_ok-tables.ensures.rows clean _ (rows_held s has live.0 (c.requires was has))
