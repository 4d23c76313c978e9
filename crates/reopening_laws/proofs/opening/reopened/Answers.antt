use Rattle.std.proofs.Common.{IfErr, IfOk, option_copied, subst, sym, ◌≡◌}
use Rattle.desk_receipts.specs.Handed.{Told}
use Rattle.reopening_laws.specs.Refusals.{IsNoBadRow, StillTells}
use Rattle.reopening_laws.proofs.Telling.{no_bad_row, same_state}
use Rattle.reopening_laws.proofs.opening.reopened.Goals as goal

pub returns-clause-same : goal.returns-clause-same
returns-clause-same g c =
    let h = g.K.Keeper in
    let path = option_copied c.args.place in
    let s = c.args.clerk.state in
    let told = subst (λ k. Told h.Tells k s) (sym c.into_keeper.ensures.same) c.into_keeper.ensures.told in
    subst (λ k. IfOk c.open.result (λ d. StillTells h.Tells h.Finds k path d.keeper → d.state ≡ s)) c.into_keeper.ensures.same
    (same_state h.Tells h.Finds h.IsSteady h.faults c.into_keeper.result path s told (λ kept are. c.reopens.ensures s kept c.into_keeper.ensures.desk are) c.opened_is_one.ensures c.open.result c.open.ensures.opened)

pub returns-clause-sound : goal.returns-clause-sound
returns-clause-sound g c =
    let h = g.K.Keeper in
    let path = option_copied c.args.place in
    let s = c.args.clerk.state in
    let told = subst (λ k. Told h.Tells k s) (sym c.into_keeper.ensures.same) c.into_keeper.ensures.told in
    subst (λ k. IfErr c.open.result (IsNoBadRow h.Tells h.Finds k path)) c.into_keeper.ensures.same
    (no_bad_row h.Tells h.Finds h.IsSteady h.faults c.into_keeper.result path s told (λ kept are. c.reopens.ensures s kept c.into_keeper.ensures.desk are) c.opened_is_sound.ensures c.open.result c.open.ensures.cause)
