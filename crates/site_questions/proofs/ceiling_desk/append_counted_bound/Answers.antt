use Rattle.site_questions.specs.Charts.{chart}
use Rattle.site_questions.proofs.AnswerFacts.{found, on_ok}
use Rattle.site_questions.proofs.ceiling_desk.append_counted_bound.Goals as goal

pub returns-in-Ok-clause-ok : goal.returns-in-Ok-clause-ok
returns-in-Ok-clause-ok g c =
    on_ok c.append_ceiling.result (found (chart c.args.sky.now c.args.last) c.args.filing.now c.ceiling-height.result c.as_slice.result.now _ _ c.ceiling-height.ensures.found (cc (c.as_slice.ensures, c.in-Ok.ensures.found)))
    c.append_ceiling.ensures.ok
