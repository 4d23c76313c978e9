use Rattle.std.proofs.Common.{arith, sym, ◌∙◌}
use Rattle.http_messages.proofs.FrameFacts.{values_first_at}
use Rattle.http_messages.proofs.frame.first_field.Goals as goal

pub returns-then-is_called-clause-first : goal.returns-then-is_called-clause-first
returns-then-is_called-clause-first c = λ d. values_first_at c.args.name.now _ c.args.headers.now c.loop-at.at _ d _
    (omega arith) c.loop-at-test.true (sym c.is_called.ensures ∙ c.if-is_called.true) c.loop-at.invariant
