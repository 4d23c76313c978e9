use Rattle.std.proofs.Common.{[]}
use Rattle.http_session.proofs.SessionFacts.{wanting_sent}
use Rattle.http_session.proofs.link.give_up.Goals as goal

pub returns-in-Ok-clause-sent : goal.returns-in-Ok-clause-sent
returns-in-Ok-clause-sent g c = wanting_sent _ _ [] c.in-Ok.ensures.ok

pub returns-in-Err-clause-sent : goal.returns-in-Err-clause-sent
returns-in-Err-clause-sent g c = wanting_sent _ _ c.in-Err.ensures.err.0 c.in-Err.ensures.err.1
