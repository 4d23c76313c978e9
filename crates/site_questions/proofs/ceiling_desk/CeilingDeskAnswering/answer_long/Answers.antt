use Rattle.site_questions.proofs.AnswerFacts.{on_err, on_ok, refused_long}
use Rattle.site_questions.proofs.ceiling_desk.CeilingDeskAnswering.answer_long.Goals as goal

pub returns-clause-reply : goal.returns-clause-reply
returns-clause-reply c = on_ok c.append_refused.result (λ t. (_, refused_long c.args.self.now, t)) c.append_refused.ensures.ok

pub returns-clause-made : goal.returns-clause-made
returns-clause-made c = on_err c.append_refused.result (_, refused_long c.args.self.now)
