use Rattle.http_session.proofs.SessionFacts.{stops_wanting}
use Rattle.http_session.proofs.link.respond.Goals as goal

pub returns-in-NoMemory-clause-ends : goal.returns-in-NoMemory-clause-ends
returns-in-NoMemory-clause-ends g c = λ x y o.
    stops_wanting g.A.Replying.step _ c.args.desk.now c.args.desk.now x _ _ _ c.end_without_memory.ensures.ends
