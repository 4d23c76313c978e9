use Rattle.std.proofs.Common.{◌≢◌, []}
use Rattle.site_questions.specs.Ways.{survey, way_end}
use Rattle.site_questions.proofs.AnswerFacts.{err_shown, on_err, on_ok, some_bytes}
use Rattle.site_questions.proofs.WayFacts.{another_line, joined, joined_anyhow, unread, unread_anyhow}
use Rattle.site_questions.proofs.way_desk.append_answer.Goals as goal

pub returns-in-Ok-clause-ok : goal.returns-in-Ok-clause-ok
returns-in-Ok-clause-ok c =
    on_ok c.append_told.result (joined c.args.sky.now c.args.last c.args.way.now c.append_told.new.way c.in-Ok.request c.args.line.now _ _ c.in-Ok.ensures.found) c.append_told.ensures.ok

pub returns-in-Err-clause-ok : goal.returns-in-Err-clause-ok
returns-in-Err-clause-ok c =
    let some : c.args.line.now ≢ [] = some_bytes c.is_empty.result c.args.line.now c.is_empty.ensures (cc (c.if-is_empty.false)) in
    let other : c.args.line.now ≢ way_end = another_line c.eq.result c.args.line.now c.eq.ensures c.if-eq.false in
    on_ok c.append_refused.result (unread (survey c.args.sky.now c.args.last c.args.way.now) c.in-Err.refusal c.args.line.now _ _ some other c.in-Err.ensures.malformed) c.append_refused.ensures.ok

pub returns-in-Ok-clause-made : goal.returns-in-Ok-clause-made
returns-in-Ok-clause-made c =
    err_shown c.append_told.result (joined_anyhow c.args.sky.now c.args.last c.args.way.now c.append_told.new.way c.in-Ok.request c.args.line.now c.in-Ok.ensures.found) c.append_told.ensures.made

pub returns-in-Err-clause-made : goal.returns-in-Err-clause-made
returns-in-Err-clause-made c =
    let some : c.args.line.now ≢ [] = some_bytes c.is_empty.result c.args.line.now c.is_empty.ensures (cc (c.if-is_empty.false)) in
    let other : c.args.line.now ≢ way_end = another_line c.eq.result c.args.line.now c.eq.ensures c.if-eq.false in
    on_err c.append_refused.result (unread_anyhow (survey c.args.sky.now c.args.last c.args.way.now) c.in-Err.refusal c.args.line.now some other c.in-Err.ensures.malformed)
