use Rattle.std.proofs.Common.{◌≡◌, Bool, true, false, IsTrue, refl, sym, subst, ◌∙◌, arith}
use Rattle.sqlite_trees.specs.Tree.{Trees}
use Rattle.sqlite_trees.specs.View.{IsShaped, IsClean}
use Rattle.sqlite_trees.specs.declared.store.Shape.TheVariants.{Table}
use Rattle.sqlite_catalog.specs.Listing.{IsSound}
use Rattle.sqlite_catalog.proofs.LayoutLemmas.{laid_out, objects_rise}
use Rattle.oe_sqlite.specs.Shape.{kept_schema}
use Rattle.oe_sqlite.proofs.reopened.opened_again.Goals as goal

open_if : (b s : Bool) → b ≡ false → (s ≡ false → IsTrue b) → IsTrue s
open_if b true is shut = refl
open_if b false is shut = sym is ∙ shut refl

pub over-requires : goal.over-requires
over-requires g c clean =
    let unbroken = sym (c.is_broken.ensures clean) ∙ c.if-is_broken.false in
    let open_now = open_if _ _ unbroken (g.met.S.Store.broken_if_shut c.rollback.new.self) in
    let kept = c.rollback.ensures.undone.kept clean in
    record {
      sound = unbroken;
      numbered = subst IsTrue (sym c.rollback.ensures.undone.numbered) (c.into_store-store.ensures.numbered (omega (arith, c.rollback.ensures.quiet.clean)));
      clean = (c.rollback.ensures.undone.undone open_now).0 ∙ sym (kept.committed open_now);
      unmarked = kept.marks open_now;
    }

pub returns-in-Ok-clause-shaped : goal.returns-in-Ok-clause-shaped
returns-in-Ok-clause-shaped g c clean has =
    let store = c.rollback.new.self in
    let v = g.S.Store.view store in
    let was : IsClean v = omega (arith, c.in-Ok.ensures.clean) in
    let unbroken = sym (c.is_broken.ensures was) ∙ c.if-is_broken.false in
    let ordered = g.met.S.Store.ordered store unbroken in
    let listed = g.met.S.Alter.listed store unbroken in
    let opens = c.in-Ok.ensures.opens clean in
    let sound = (opens.1 opens.0.is_open).0 in
    let trees = c.in-Ok.ensures.trees clean in
    let there : IsSound kept_schema v.trees = subst (λ s. IsSound s v.trees) has (subst (IsSound c.in-Ok.conn.schema) trees sound) in
    let laid = laid_out listed (objects_rise v listed ordered) there.lists.listed in
    let shaped : IsShaped Table (v.trees 0) = subst (λ s. IsShaped s (v.trees 0)) laid.tables.0 (ordered 0) in
    subst (λ (t : Trees). IsShaped Table (t 0)) (sym trees) shaped

pub returns-in-Ok-clause-same : goal.returns-in-Ok-clause-same
returns-in-Ok-clause-same g c clean =
    let store = c.rollback.new.self in
    let was : IsClean (g.S.Store.view store) = omega (arith, c.in-Ok.ensures.clean) in
    let early : IsClean (g.S.Store.view c.into_store-store.result) = omega (arith, c.rollback.ensures.quiet.clean) in
    let unbroken = sym (c.is_broken.ensures was) ∙ c.if-is_broken.false in
    let up = open_if _ _ unbroken (g.met.S.Store.broken_if_shut store) in
    let before = (c.rollback.ensures.undone.kept was).was_open up in
    let opens = c.in-Ok.ensures.opens clean in (
      c.in-Ok.ensures.trees clean ∙ (c.rollback.ensures.undone.undone up).0 ∙ (c.into_store-store.ensures.undone.kept early).committed before,
      (opens.1 opens.0.is_open).0,
    )
