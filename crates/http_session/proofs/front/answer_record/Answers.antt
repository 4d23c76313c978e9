use Rattle.http_session.proofs.FrontFacts.{empty_record, on_err}
use Rattle.http_session.proofs.front.answer_record.Goals as goal

pub returns-then-is_empty-clause-made : goal.returns-then-is_empty-clause-made
returns-then-is_empty-clause-made g c =
    on_err c.append_reply.result (empty_record g.F.Answering.step c.args.desk.now c.args.line.now c.is_empty.result c.is_empty.ensures (cc (c.if-is_empty.true)))
