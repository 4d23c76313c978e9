use Rattle.std.proofs.Common.{◌≡◌, None, Some, Ok, sym, subst, option_copied}
use Rattle.wire_requests.specs.Changes.{Asked}
use Rattle.desk_machine.specs.States.{State, entry_of}
use Rattle.desk_machine.specs.Evaluations.{basis_of}
use Rattle.desk_machine.specs.Machine.{Answer as Decided, ruling_of_act}
use Rattle.desk_machine.specs.Marks.{Goes, IsPresent}
use Rattle.desk_machine.proofs.Going.{acted_goes}
use Rattle.desk_machine.proofs.Presence.{acted_present}
use Rattle.desk_tables.specs.Changes.{HasRoom}
use Rattle.filing_desk.specs.Served.{Serves}
use Rattle.filing_desk.proofs.Causes.{no_fault_of_act}
use Rattle.filing_desk.proofs.Rooms.{acted_room}
use Rattle.filing_desk.proofs.Serving.{unasked_for, unserved}
use Rattle.filing_desk.proofs.Deciding.{known_as, new_as}
use Rattle.filing_desk.proofs.office.Office.apply.Goals as goal

pub returns-in-Some-clause-answer : goal.returns-in-Some-clause-answer
returns-in-Some-clause-answer g c =
    let s = c.args.self.now in
    let q = c.args.c.now in
    let e = c.in-Some.entry.now in
    let in_state = subst (λ (t : State). entry_of c.c.inside.caller c.c.inside.key t.entries ≡ Some e) c.self.view_is (sym c.in-Some.ensures) in
    let there = subst (λ (p : Asked). entry_of p.caller p.key s.entries ≡ Some e) c.c.view_is in_state in
    known_as s c.args.p q (option_copied c.args.given) e c.repeated.result there (c.repeated.ensures.answer s)

pub returns-in-Some-clause-serves : goal.returns-in-Some-clause-serves
returns-in-Some-clause-serves g c =
    unasked_for g.K.Keeper.Tells g.K.Keeper.IsLoaded g.K.Keeper.IsSteady g.K.Keeper.faults c.args.keeper.now c.args.self.now _ c.repeated.result c.requires c.repeated.ensures.cause

pub accept-requires-clause-goes : goal.accept-requires-clause-goes
accept-requires-clause-goes g c = subst (λ (s : State). Goes s c.in-Ok.effect.step) c.self.view_is (acted_goes c.self.inside.desk _ c.c.inside.act c.in-Ok.effect c.in-Ok.ensures.value)

pub accept-requires-clause-present : goal.accept-requires-clause-present
accept-requires-clause-present g c own =
    subst (λ (s : State). IsPresent s c.in-Ok.effect.step) c.self.view_is
    (acted_present c.self.inside.desk c.args.p (option_copied c.args.given) c.c.inside.act c.in-Ok.effect (c.is_own-own.ensures own) c.in-Ok.ensures.value)

pub accept-requires-clause-room : goal.accept-requires-clause-room
accept-requires-clause-room g c = subst (λ (s : State). HasRoom s.cases c.in-Ok.effect.step) c.self.view_is (acted_room c.self.inside.desk _ c.c.inside.act c.in-Ok.effect c.in-Ok.ensures.value)

pub returns-in-Err-clause-serves : goal.returns-in-Err-clause-serves
returns-in-Err-clause-serves g c =
    unserved g.K.Keeper.Tells g.K.Keeper.IsLoaded g.K.Keeper.IsSteady g.K.Keeper.faults c.args.keeper.now c.args.self.now _ c.in-Err.why c.requires (no_fault_of_act c.self.inside.desk _ c.c.inside.act c.in-Err.why c.in-Err.ensures.value)

pub returns-in-Ok-clause-serves : goal.returns-in-Ok-clause-serves
returns-in-Ok-clause-serves g c =
    let s = c.args.self.now in
    let q = c.args.c.now in
    let e = c.in-Ok.effect in
    let in_state = subst (λ (t : State). entry_of c.c.inside.caller c.c.inside.key t.entries ≡ None) c.self.view_is (sym c.in-None.ensures) in
    let free = subst (λ (p : Asked). entry_of p.caller p.key s.entries ≡ None) c.c.view_is in_state in
    let in_desk = subst (λ (t : State). ruling_of_act t (basis_of t c.args.p (option_copied c.args.given) c.c.inside.act) c.c.inside.act ≡ Ok e) c.self.view_is c.in-Ok.ensures.value in
    let is = subst (λ (p : Asked). ruling_of_act s (basis_of s c.args.p (option_copied c.args.given) p.act) p.act ≡ Ok e) c.c.view_is in_desk in
    subst
    (λ (d : Decided). Serves g.K.Keeper.Tells g.K.Keeper.IsLoaded g.K.Keeper.IsSteady g.K.Keeper.faults d c.args.keeper.now c.accept.new.keeper s c.accept.new.self c.accept.result)
    (sym (new_as s c.args.p q (option_copied c.args.given) (Ok e) free is)) c.accept.ensures.serves
