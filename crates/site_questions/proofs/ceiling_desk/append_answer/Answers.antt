use Rattle.std.proofs.Common.{◌≢◌, []}
use Rattle.site_questions.specs.Charts.{chart}
use Rattle.site_questions.proofs.AnswerFacts.{on_ok, record_told, some_bytes, unread}
use Rattle.site_questions.proofs.ceiling_desk.append_answer.Goals as goal

pub returns-in-Ok-clause-ok : goal.returns-in-Ok-clause-ok
returns-in-Ok-clause-ok c =
    let some : c.args.line.now ≢ [] = some_bytes c.is_empty.result c.args.line.now c.is_empty.ensures (cc (c.if-is_empty.false)) in
    on_ok c.append_told.result (record_told (chart c.args.sky.now c.args.last) c.in-Ok.request c.args.line.now _ _ some c.in-Ok.ensures.found) c.append_told.ensures.ok

pub returns-in-Err-clause-ok : goal.returns-in-Err-clause-ok
returns-in-Err-clause-ok c =
    let some : c.args.line.now ≢ [] = some_bytes c.is_empty.result c.args.line.now c.is_empty.ensures (cc (c.if-is_empty.false)) in
    on_ok c.append_refused.result (unread (chart c.args.sky.now c.args.last) c.in-Err.refusal c.args.line.now _ _ some c.in-Err.ensures.malformed) c.append_refused.ensures.ok
