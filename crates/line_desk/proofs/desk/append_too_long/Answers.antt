use Rattle.airfield_findings.proofs.EntryFacts.{where_ok}
use Rattle.line_desk.proofs.QueryFacts.{on_err}
use Rattle.line_desk.proofs.StepFacts.{refused_long}
use Rattle.line_desk.proofs.desk.append_too_long.Goals as goal

pub returns-clause-ok : goal.returns-clause-ok
returns-clause-ok g c = where_ok c.append_reply.result (λ appended. (_, refused_long g.K.Keeper.IsSteady g.K.Keeper.faults, appended)) c.append_reply.ensures.ok

pub returns-clause-made : goal.returns-clause-made
returns-clause-made g c = on_err c.append_reply.result (_, refused_long g.K.Keeper.IsSteady g.K.Keeper.faults)
