use Rattle.std.proofs.Common.{[], refl, subst}
use Rattle.desk_service.specs.Sittings.{Sitting, Stays}
use Rattle.wire_requests.specs.declared.request.Request.TheVariants as requests
use Rattle.desk_service.proofs.Lines.{after, on_err, on_ok}
use Rattle.desk_service.proofs.Staying.{asked}
use Rattle.desk_service.proofs.place.Place.ask.Goals as goal

pub returns-clause-ok : goal.returns-clause-ok
returns-clause-ok g c =
    on_ok c.append_reply-appended.result
    (λ appended. asked g.F.Keeper.Keeper.IsSteady g.F.Keeper.Keeper.faults g.J.Naming.first g.J.Naming.base g.J.Opening.opening c.args.query.now c.reply.result.now _ _ c.args.self.now c.hear.new.self
    (record {
      asked = c.answer-answered.result;
      query_is = c.answer-answered.ensures.query;
      may = c.requires;
      replied = c.answer-answered.ensures.replied;
      own = c.answer-answered.ensures.own;
      reply_is = c.reply.ensures.reply;
      note = rw c.into_note.ensures at c.hear.ensures.note;
      stays = subst (λ (s : Sitting _). Stays s c.hear.new.self) c.answer-answered.ensures.same c.hear.ensures.stays;
    }) appended) c.append_reply-appended.ensures.ok

pub returns-clause-made : goal.returns-clause-made
returns-clause-made g c =
    let s = c.args.self.now in
    let t = c.hear.new.self in
    on_err c.append_reply-appended.result
    (after g.F.Keeper.Keeper.IsSteady g.F.Keeper.Keeper.faults g.J.Naming.first g.J.Naming.base g.J.Opening.opening s t (requests.Query c.args.query.now) _
    (asked g.F.Keeper.Keeper.IsSteady g.F.Keeper.Keeper.faults g.J.Naming.first g.J.Naming.base g.J.Opening.opening c.args.query.now c.reply.result.now [] _ s t
    (record {
      asked = c.answer-answered.result;
      query_is = c.answer-answered.ensures.query;
      may = c.requires;
      replied = c.answer-answered.ensures.replied;
      own = c.answer-answered.ensures.own;
      reply_is = c.reply.ensures.reply;
      note = rw c.into_note.ensures at c.hear.ensures.note;
      stays = subst (λ (s : Sitting _). Stays s c.hear.new.self) c.answer-answered.ensures.same c.hear.ensures.stays;
    }) refl))
