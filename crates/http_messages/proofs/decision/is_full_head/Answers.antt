use Rattle.std.proofs.Common.{arith}
use Rattle.http_messages.proofs.SpanFacts.{full_head}
use Rattle.http_messages.proofs.decision.is_full_head.Goals as goal

pub returns-then-head-bytes-clause-yes : goal.returns-then-head-bytes-clause-yes
returns-then-head-bytes-clause-yes c = λ e. full_head _ _ c.in-Ok-Complete.head
    (rw c.in-Ok-Complete.field-0-is at c.in-Ok-Complete.ensures.complete)
    (rw c.in-Ok-Complete.field-0-is at c.in-Ok-Complete.ensures.within) c.if-head-bytes.true (grind arith)
