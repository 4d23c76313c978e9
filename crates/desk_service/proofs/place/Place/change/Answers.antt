use Rattle.std.proofs.Common.{[], refl}
use Rattle.desk_service.proofs.Lines.{after, err_shown, on_err, on_ok}
use Rattle.desk_service.proofs.Staying.{changed, wanting}
use Rattle.wire_requests.specs.declared.request.Request.TheVariants as requests
use Rattle.desk_service.proofs.place.Place.change.Goals as goal

pub returns-in_default-clause-ok : goal.returns-in_default-clause-ok
returns-in_default-clause-ok g c =
    on_ok c.append_reply.result
    (λ appended. wanting g.F.Keeper.Keeper.IsSteady g.F.Keeper.Keeper.faults g.J.Naming.first g.J.Naming.base g.J.Opening.opening (requests.Change c.args.change.now) _ _ c.args.self.now c.evaluate.new.self c.evaluate.ensures.stays appended) c.append_reply.ensures.ok

pub returns-clause-ok : goal.returns-clause-ok
returns-clause-ok g c =
    on_ok c.decide.result
    (λ h. changed g.F.Keeper.Keeper.IsSteady g.F.Keeper.Keeper.faults g.J.Naming.first g.J.Naming.base g.J.Opening.opening c.args.change.now c.in-Ok.evaluated h.0 _ _ c.args.self.now c.evaluate.new.self c.decide.new.self
    c.evaluate.ensures.stays c.decide.ensures.same c.in-Ok.ensures.evaluated h.1 h.2) c.decide.ensures.ok

pub returns-in_default-clause-made : goal.returns-in_default-clause-made
returns-in_default-clause-made g c =
    on_err c.append_reply.result
    (after g.F.Keeper.Keeper.IsSteady g.F.Keeper.Keeper.faults g.J.Naming.first g.J.Naming.base g.J.Opening.opening c.args.self.now c.evaluate.new.self (requests.Change c.args.change.now) _ (wanting g.F.Keeper.Keeper.IsSteady g.F.Keeper.Keeper.faults g.J.Naming.first g.J.Naming.base g.J.Opening.opening (requests.Change c.args.change.now) [] _ c.args.self.now c.evaluate.new.self c.evaluate.ensures.stays refl))

pub returns-clause-made : goal.returns-clause-made
returns-clause-made g c =
    err_shown c.decide.result
    (λ h. after g.F.Keeper.Keeper.IsSteady g.F.Keeper.Keeper.faults g.J.Naming.first g.J.Naming.base g.J.Opening.opening c.args.self.now c.decide.new.self (requests.Change c.args.change.now) _
    (changed g.F.Keeper.Keeper.IsSteady g.F.Keeper.Keeper.faults g.J.Naming.first g.J.Naming.base g.J.Opening.opening c.args.change.now c.in-Ok.evaluated h.0 [] _ c.args.self.now c.evaluate.new.self c.decide.new.self
    c.evaluate.ensures.stays c.decide.ensures.same c.in-Ok.ensures.evaluated h.1 refl)) c.decide.ensures.made
