use Rattle.std.proofs.Common.{◌<◌, length}
use Rattle.wire_requests.specs.declared.request.Request.TheVariants as requests
use Rattle.desk_service.proofs.Lines.{after_refused, after_told, after_unread, err_shown, on_err, on_ok, some_bytes, told, refused}
use Rattle.desk_service.proofs.desk.append_answer.Goals as goal

pub returns-in-Some-clause-ok : goal.returns-in-Some-clause-ok
returns-in-Some-clause-ok g c = on_ok c.ask.result (λ tells. told _ _ _ _ _ _ _ (requests.Query c.in-Some.query) _ _ _ c.in-Some.ensures tells) c.ask.ensures.ok

pub returns-in-Ok-clause-ok : goal.returns-in-Ok-clause-ok
returns-in-Ok-clause-ok g c = on_ok c.fulfil.result (λ tells. told _ _ _ _ _ _ _ c.in-Ok.request _ _ _ c.in-Ok.ensures.found tells) c.fulfil.ensures.ok

pub returns-in-Err-Malformed-clause-ok : goal.returns-in-Err-Malformed-clause-ok
returns-in-Err-Malformed-clause-ok g c =
    let some : 0 < length c.args.line.now = some_bytes c.is_empty.result c.args.line.now c.is_empty.ensures (cc (c.if-is_empty.false)) in
    let is = rw c.in-Err-Malformed.field-0-is at c.in-Err-Malformed.ensures.malformed in
    on_ok c.append_reply.result (λ appended. refused _ _ _ _ _ _ _ _ _ _ some is (rw c.in-Err-Malformed.field-0-is at appended)) c.append_reply.ensures.ok

pub returns-in-Some-clause-made : goal.returns-in-Some-clause-made
returns-in-Some-clause-made g c = err_shown c.ask.result (after_told _ _ _ _ _ _ _ (requests.Query c.in-Some.query) _ c.in-Some.ensures) c.ask.ensures.made

pub returns-in-Ok-clause-made : goal.returns-in-Ok-clause-made
returns-in-Ok-clause-made g c = err_shown c.fulfil.result (after_told _ _ _ _ _ _ _ c.in-Ok.request _ c.in-Ok.ensures.found) c.fulfil.ensures.made

pub returns-in-Err-Malformed-clause-made : goal.returns-in-Err-Malformed-clause-made
returns-in-Err-Malformed-clause-made g c =
    let some : 0 < length c.args.line.now = some_bytes c.is_empty.result c.args.line.now c.is_empty.ensures (cc (c.if-is_empty.false)) in
    let is = rw c.in-Err-Malformed.field-0-is at c.in-Err-Malformed.ensures.malformed in
    on_err c.append_reply.result (after_refused _ _ _ _ _ _ _ _ some is)

pub returns-in-Err-NoMemory-clause-made : goal.returns-in-Err-NoMemory-clause-made
returns-in-Err-NoMemory-clause-made g c =
    let some : 0 < length c.args.line.now = some_bytes c.is_empty.result c.args.line.now c.is_empty.ensures (cc (c.if-is_empty.false)) in
    on_err c.append_reply-in-Err-NoMemory.result (after_unread _ _ _ _ _ _ _ some)
