use Rattle.std.proofs.Common.{ap, ◌∙◌}
use Rattle.publishing_clerk.specs.Evaluations.{given_in}
use Rattle.desk_service.proofs.Lines.{on_err, on_ok}
use Rattle.desk_service.proofs.Staying.{ruling_made}
use Rattle.desk_service.proofs.place.Place.decide.Goals as goal

pub returns-clause-ok : goal.returns-clause-ok
returns-clause-ok g c =
    let at = c.apply-ruling.ensures in
    on_ok c.append_reply-appended.result
    (λ appended. (
      c.reply.result.now,
      ruling_made g.F.Keeper.Keeper.IsSteady g.F.Keeper.Keeper.faults g.J.Naming.base g.J.Opening.opening c.args.change.now c.args.evaluated c.apply-ruling.result c.reply.result.now c.args.self.now c.apply-ruling.new.self c.hear.new.self
          at.request (at.given ∙ ap (given_in g.J.Naming.base) c.as_ref.ensures.value) at.ruled at.own c.reply.ensures.reply (rw c.into_note.ensures at c.hear.ensures.note) at.counted at.later at.front at.told c.hear.ensures.stays,
      appended,
    ))
    c.append_reply-appended.ensures.ok

pub returns-clause-made : goal.returns-clause-made
returns-clause-made g c =
    let at = c.apply-ruling.ensures in
    on_err c.append_reply-appended.result (
      c.reply.result.now,
      ruling_made g.F.Keeper.Keeper.IsSteady g.F.Keeper.Keeper.faults g.J.Naming.base g.J.Opening.opening c.args.change.now c.args.evaluated c.apply-ruling.result c.reply.result.now c.args.self.now c.apply-ruling.new.self c.hear.new.self
          at.request (at.given ∙ ap (given_in g.J.Naming.base) c.as_ref.ensures.value) at.ruled at.own c.reply.ensures.reply (rw c.into_note.ensures at c.hear.ensures.note) at.counted at.later at.front at.told c.hear.ensures.stays,
    )
