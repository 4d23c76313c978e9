use Rattle.std.proofs.Common.{◌≡◌, ◌+◌, take, sym, ap, subst, ◌∙◌, arith, rules}
use Rattle.sqlite.specs.State.{HasCleanDisk}
use Rattle.std.proofs.lemmas.List.{take_all}
use Rattle.std.proofs.lemmas.List.Sums.{fold_more}
use Rattle.sqlite.specs.Held.{state}
use Rattle.oe_sqlite.specs.Model.{Holds}
use Rattle.oe_keeper.specs.Kept.{rows_after_change, rows_after_changes}
use Rattle.oe_sqlite.proofs.transaction.change_all.Goals as goal

pub returns-clause-changes : goal.returns-clause-changes
returns-clause-changes g c clean within tables holds =
    let it = c.changes.invariant.2 clean within in
    subst (λ l. Holds (state g.S.Store c.changes.tx.conn.now) (rows_after_changes tables l)) (take_all c.changes.it-index c.args.changes.now c.changes-test.false) (it.2 tables holds)

pub returns-clause-sound : goal.returns-clause-sound
returns-clause-sound g c clean within tables holds sound = (c.changes.invariant.2 clean within).3 tables holds sound

pub changes-preserved : goal.changes-preserved
changes-preserved g c =
    let it = c.changes.invariant in (
      search rules,
      omega (arith, it.1, c.in_ok-make.ensures.clean),
      λ clean within.
          let was : HasCleanDisk (state g.S.Store c.changes.tx.conn.now) = omega (arith, c.in_ok-make.ensures.clean) in
          let now = it.2 was within in (
            c.in_ok-make.ensures.inside clean now.0,
            search rules,
            λ tables holds.
                let xs = c.args.changes.now in
                let next : rows_after_changes tables (take (c.changes.it-index + 1) xs) ≡ rows_after_change (rows_after_changes tables (take c.changes.it-index xs)) c.it-item.result =
                fold_more rows_after_change tables xs c.changes.it-index c.it-item.result (omega (arith, c.changes-test.true)) ∙ ap (rows_after_change (rows_after_changes tables (take c.changes.it-index xs))) (sym c.it-item.is) in
                subst (Holds (state g.S.Store c.make.new.tx.conn.now)) (sym next) (c.in_ok-make.ensures.changes clean now.0 _ (now.2 tables holds)),
            λ tables holds sound. c.in_ok-make.ensures.sound clean now.0 _ (now.2 tables holds),
          ),
      λ clean db may.
          let was : HasCleanDisk (state g.S.Store c.changes.tx.conn.now) = omega (arith, c.in_ok-make.ensures.clean) in
          it.3 was db (c.in_ok-make.ensures.crash clean db may),
    )
