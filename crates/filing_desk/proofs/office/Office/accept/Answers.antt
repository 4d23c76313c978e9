use Rattle.std.proofs.Common.{◌≡◌, ◌≤◌, subst, length, List}
use Rattle.oe_keeper.specs.Kept.{Kept}
use Rattle.oe_keeper.specs.declared.change.RowChange.{RowChange}
use Rattle.desk_machine.specs.States.{State}
use Rattle.desk_machine.specs.declared.entry.Entry.{Entry}
use Rattle.desk_machine.specs.declared.entry.TheConstants.{MOST_CASES}
use Rattle.desk_tables.specs.Changes.{changes, Fits}
use Rattle.filing_desk.proofs.Serving.{carried, not_served, served}
use Rattle.filing_desk.proofs.office.Office.accept.Goals as goal

pub returns-in-Ok-take-clause-serves : goal.returns-in-Ok-take-clause-serves
returns-in-Ok-take-clause-serves g c =
    let s = c.args.self.now in
    let step = c.args.effect.step in
    let e : Entry = record { number = c.in-Some.number; change = c.args.c.now; outcome = c.args.effect.outcome } in
    let list : List RowChange = c.in-Ok-changes.changes in
    let done = c.in-Ok-take.ensures.done in
    let fits : Fits s e step = record {
      named = c.name_of.ensures;
      sound = c.requires.sound;
      room = c.requires.room;
      most = subst (λ (u : State). length u.cases ≤ MOST_CASES) c.self.view_is c.soundness.ensures.most;
      allowed = done.0;
      caller = c.caller_of.ensures;
      new = c.requires.new;
    } in
    let made = subst (λ (u : State). (rows : Kept) → g.K.Keeper.Tells c.args.keeper.now rows → list ≡ changes u e step) c.self.view_is c.in-Ok-changes.ensures in
    let carry = carried g.K.Keeper.Tells c.args.keeper.now s c.take.new.self e step list made done.1 fits in
    served g.K.Keeper.Tells g.K.Keeper.IsLoaded g.K.Keeper.IsSteady g.K.Keeper.faults c.args.keeper.now c.take.new.keeper s c.take.new.self list c.args.c.now c.args.effect e c.in-Ok-take.field-0
    c.in-Some.number c.in-Ok.outcome carry c.in-Ok-take.ensures

pub returns-in-Err-clause-serves : goal.returns-in-Err-clause-serves
returns-in-Err-clause-serves g c =
    let e : Entry = record { number = c.in-Some.number; change = c.args.c.now; outcome = c.args.effect.outcome } in
    not_served g.K.Keeper.Tells g.K.Keeper.IsLoaded g.K.Keeper.IsSteady g.K.Keeper.faults c.args.keeper.now c.take.new.keeper c.args.self.now c.take.new.self c.in-Ok-changes.changes c.args.c.now c.args.effect e
    c.in-Err.why c.in-Err.ensures
