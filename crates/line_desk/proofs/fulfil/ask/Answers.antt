use Rattle.line_desk.proofs.QueryFacts.{query_after, query_told, on_err, on_ok}
use Rattle.line_desk.specs.Desk.{serving}
use Rattle.line_desk.proofs.fulfil.ask.Goals as goal

pub returns-clause-ok : goal.returns-clause-ok
returns-clause-ok g c = on_ok c.append_reply.result (query_told g.K.Keeper.IsSteady g.K.Keeper.faults (serving c.args.clerk.now) _ _ c.args.query.now c.reply.result c.reply.ensures) c.append_reply.ensures.ok

pub returns-clause-made : goal.returns-clause-made
returns-clause-made g c = on_err c.append_reply.result (query_after g.K.Keeper.IsSteady g.K.Keeper.faults (serving c.args.clerk.now) c.args.query.now c.reply.result c.reply.ensures)
