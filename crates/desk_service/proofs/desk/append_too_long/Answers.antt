use Rattle.desk_service.proofs.Lines.{on_err, on_ok, refused_long}
use Rattle.desk_service.proofs.desk.append_too_long.Goals as goal

pub returns-clause-ok : goal.returns-clause-ok
returns-clause-ok g c = on_ok c.append_reply.result (λ appended. (_, refused_long _ _ _ _ _, appended)) c.append_reply.ensures.ok

pub returns-clause-made : goal.returns-clause-made
returns-clause-made g c = on_err c.append_reply.result (_, refused_long _ _ _ _ _)
