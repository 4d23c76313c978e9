use Rattle.row_register.proofs.PartFacts.{if_none, behind}
use Rattle.row_receipts.proofs.determination.take_course.Goals as goal

pub returns-in_err-expiry-clause-none : goal.returns-in_err-expiry-clause-none
returns-in_err-expiry-clause-none c =
    if_none c.from_residual-in_err-expiry.result (λ x y z rest p q r e. c.in_err-expiry.ensures.none z _ r (behind c.in_ok-effective.ensures.took (behind c.in_ok-deadline.ensures.took e)))
