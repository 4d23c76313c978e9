use Rattle.std.proofs.Common.{◌≡◌, ◌+◌, [], ap, refl, length}
use Rattle.wire_requests.specs.declared.request.Request.TheVariants as requests
use Rattle.wire_requests.specs.declared.request.Query.TheVariants as queries
use Rattle.wire_replies.specs.declared.reply.Reply.TheVariants as replies
use Rattle.desk_service.proofs.Lines.{after, on_err, on_ok}
use Rattle.desk_service.proofs.Staying.{looks_from, shown, stays_on, synced_by, wanting}
use Rattle.desk_service.proofs.Numbers.{number_is}
use Rattle.desk_service.proofs.fulfil.sync.Goals as goal

pub returns-in_default-clause-ok : goal.returns-in_default-clause-ok
returns-in_default-clause-ok g c =
    on_ok c.append_reply.result
    (λ appended. wanting g.F.Keeper.Keeper.IsSteady g.F.Keeper.Keeper.faults g.J.Naming.first g.J.Naming.base g.J.Opening.opening (requests.Query queries.Sync) _ _ c.args.place.now c.look.new.self
    (stays_on c.args.place.now c.learn.new.self c.look.new.self c.learn.ensures.stays c.look.ensures.stays) appended) c.append_reply.ensures.ok

pub returns-clause-ok : goal.returns-clause-ok
returns-clause-ok g c =
    let s = c.args.place.now in
    let u = c.learn.new.self in
    let t = c.look.new.self in
    let last : c.base.result + c.in-Ok.shown.number ≡ g.J.Naming.base + length t.front = number_is _ _ _ _ t.front c.base.ensures c.in-Ok.shown.counted c.in-Ok.ensures.front in
    on_ok c.append_reply-2.result
    (λ appended. shown g.F.Keeper.Keeper.IsSteady g.F.Keeper.Keeper.faults g.J.Naming.first g.J.Naming.base g.J.Opening.opening queries.Sync (replies.Synced (c.base.result + c.in-Ok.shown.number)) _ _ s t (ap replies.Synced last)
    (looks_from s u t c.learn.ensures.stays c.in-Ok.ensures.looks) (synced_by s.clerk u.told t.front c.learn.ensures.told c.in-Ok.ensures.looks.all) appended) c.append_reply-2.ensures.ok

pub returns-in_default-clause-made : goal.returns-in_default-clause-made
returns-in_default-clause-made g c =
    on_err c.append_reply.result
    (after g.F.Keeper.Keeper.IsSteady g.F.Keeper.Keeper.faults g.J.Naming.first g.J.Naming.base g.J.Opening.opening c.args.place.now c.look.new.self (requests.Query queries.Sync) _ (wanting g.F.Keeper.Keeper.IsSteady g.F.Keeper.Keeper.faults g.J.Naming.first g.J.Naming.base g.J.Opening.opening (requests.Query queries.Sync) [] _ c.args.place.now c.look.new.self (stays_on c.args.place.now c.learn.new.self c.look.new.self c.learn.ensures.stays c.look.ensures.stays) refl))

pub returns-clause-made : goal.returns-clause-made
returns-clause-made g c =
    let s = c.args.place.now in
    let u = c.learn.new.self in
    let t = c.look.new.self in
    let last : c.base.result + c.in-Ok.shown.number ≡ g.J.Naming.base + length t.front = number_is _ _ _ _ t.front c.base.ensures c.in-Ok.shown.counted c.in-Ok.ensures.front in
    on_err c.append_reply-2.result
    (after g.F.Keeper.Keeper.IsSteady g.F.Keeper.Keeper.faults g.J.Naming.first g.J.Naming.base g.J.Opening.opening s t (requests.Query queries.Sync) _
    (shown g.F.Keeper.Keeper.IsSteady g.F.Keeper.Keeper.faults g.J.Naming.first g.J.Naming.base g.J.Opening.opening queries.Sync (replies.Synced (c.base.result + c.in-Ok.shown.number)) [] _ s t (ap replies.Synced last)
    (looks_from s u t c.learn.ensures.stays c.in-Ok.ensures.looks) (synced_by s.clerk u.told t.front c.learn.ensures.told c.in-Ok.ensures.looks.all) refl))
