use Rattle.std.proofs.Common.{◌≡◌, sym, ap, subst, ◌∙◌, arith}
use Rattle.sqlite_trees.specs.Tree.{Trees}
use Rattle.sqlite_catalog.specs.Listing.{IsSound}
use Rattle.sqlite_catalog.proofs.ReadLemmas.{lists_once}
use Rattle.sqlite.specs.Effect.{Database}
use Rattle.sqlite.specs.Held.{state}
use Rattle.sqlite.specs.State.{HasCleanDisk}
use Rattle.oe_sqlite.specs.Model.{tables_in}
use Rattle.oe_sqlite.specs.Shape.{kept_schema}
use Rattle.oe_sqlite.proofs.reopened.load_opened.Goals as goal

-- what is opened once more lists the same schema, since its trees are those of the last commit
pub returns-clause-rows : goal.returns-clause-rows
returns-clause-rows g c has settled clean up =
    let old = state g.S.Store c.args.conn in
    let new = state g.S.Store c.in_ok-conn.conn in
    let third : HasCleanDisk new = omega (arith, c.in_ok-tables-2.ensures.clean) in
    let second : HasCleanDisk (state g.S.Store c.create.new.conn) = omega (arith, c.in_ok-conn.ensures.clean) in
    let still = (c.in_ok-create.ensures.stays second has).0 in
    let same = c.in_ok-conn.ensures.same third in
    let trees : new.now.trees ≡ old.now.trees = same.0 ∙ ap (λ (d : Database). d.trees) (still.committed_is ∙ sym settled) in
    let listed : IsSound kept_schema old.now.trees = subst (λ s. IsSound s old.now.trees) has (c.schema.ensures.live still.was_open).0 in
    let sound : IsSound kept_schema new.now.trees = subst (IsSound kept_schema) (sym trees) listed in
    let schema : new.now.schema ≡ kept_schema = lists_once _ _ _ same.1.lists sound.lists in
    (c.in_ok-tables-2.ensures.was schema, ap (λ (t : Trees). tables_in (t 0)) (sym trees) ∙ c.in_ok-tables-2.ensures.rows clean up schema)
