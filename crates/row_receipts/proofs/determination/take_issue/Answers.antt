use Rattle.row_register.proofs.PartFacts.{if_none, behind}
use Rattle.row_receipts.proofs.determination.take_issue.Goals as goal

pub returns-in_err-issued-clause-none : goal.returns-in_err-issued-clause-none
returns-in_err-issued-clause-none c =
    if_none c.from_residual-in_err-issued.result (λ x y z rest s h e. c.in_err-issued.ensures.none z _ h (behind c.in_ok-next-2.ensures.some (behind c.in_ok-next.ensures.some e)))
