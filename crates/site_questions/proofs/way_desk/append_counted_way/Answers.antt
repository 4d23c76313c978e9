use Rattle.site_questions.specs.Charts.{chart}
use Rattle.site_questions.proofs.AnswerFacts.{on_ok}
use Rattle.site_questions.proofs.WayFacts.{way_found}
use Rattle.site_questions.proofs.way_desk.append_counted_way.Goals as goal

pub returns-in-Ok-clause-ok : goal.returns-in-Ok-clause-ok
returns-in-Ok-clause-ok g c =
    on_ok c.append_way_text.result
    (way_found (chart c.args.sky.now c.args.last) c.args.way.now c.in-Ok.list c.as_slice.result.now c.len.result _ _ c.in-Ok.ensures.found c.as_slice.ensures c.len.ensures.number)
    c.append_way_text.ensures.ok
