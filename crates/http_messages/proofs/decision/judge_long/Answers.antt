use Rattle.http_messages.proofs.HeadFacts.{at_limit}
use Rattle.http_messages.proofs.decision.judge_long.Goals as goal

pub returns-in-Wanting-clause-refused : goal.returns-in-Wanting-clause-refused
returns-in-Wanting-clause-refused c = at_limit _ c.requires.long
    (rw c.split_at_mut-front.ensures.front at c.in-Wanting.ensures.decides) c.requires.none
