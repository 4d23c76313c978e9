use Rattle.http_messages.specs.Responses.{response_text}
use Rattle.http_session.proofs.WaitingFacts.{front_behind, front_more}
use Rattle.http_session.proofs.link.gather.Goals as goal

pub returns-in-Ok-clause-fault : goal.returns-in-Ok-clause-fault
returns-in-Ok-clause-fault g c = λ e.
    let sent = rw (c.keep.ensures.same c.if-keep.false) at c.in-Ok.ensures.ok in
    front_behind _ _ _ _ (response_text c.args.status c.args.allow c.args.body.now c.args.close) sent (c.write_on.ensures.fault e)

pub returns-in-Err-clause-fault : goal.returns-in-Err-clause-fault
returns-in-Err-clause-fault g c = λ _.
    let front = rw (c.keep.ensures.same c.if-keep.false) at c.in-Err.ensures.err in
    front_more _ _ _ (response_text c.args.status c.args.allow c.args.body.now c.args.close) front
