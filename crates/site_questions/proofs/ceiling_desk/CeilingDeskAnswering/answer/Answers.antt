use Rattle.std.proofs.Common.{subst}
use Rattle.site_questions.specs.Charts.{Chart}
use Rattle.site_questions.specs.Ceilings.{CeilingTold}
use Rattle.site_questions.proofs.AnswerFacts.{on_err, on_ok, unchanged}
use Rattle.site_questions.proofs.ceiling_desk.CeilingDeskAnswering.answer.Goals as goal

pub returns-clause-reply : goal.returns-clause-reply
returns-clause-reply c =
    on_ok c.append_answer.result
    (λ answer. (answer.reply, record { told = subst (λ (s : Chart). CeilingTold s c.args.line.now answer.reply) c.self.view_is answer.told; same = c.self.view_is }, answer.appended))
    c.append_answer.ensures.ok

pub returns-clause-made : goal.returns-clause-made
returns-clause-made c =
    let kept = unchanged c.args.self.now c.args.line.now in
    on_err c.append_answer.result (kept.0, record { told = kept.1; same = c.self.view_is })
