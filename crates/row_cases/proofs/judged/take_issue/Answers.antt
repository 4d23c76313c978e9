use Rattle.row_register.proofs.PartFacts.{if_none, behind}
use Rattle.std.proofs.Common.{arith}
use Rattle.row_cases.proofs.judged.take_issue.Goals as goal

pub returns-in_err-last-clause-none : goal.returns-in_err-last-clause-none
returns-in_err-last-clause-none c = if_none c.from_residual.result (λ x y z rest s p q e. c.in_err-last.ensures.none x _ (omega (arith, s)) e)

pub returns-in_err-issued-clause-none : goal.returns-in_err-issued-clause-none
returns-in_err-issued-clause-none c = if_none c.from_residual-in_err-issued.result (λ x y z rest s p q e. c.in_err-issued.ensures.none y _ p (behind c.in_ok-last.ensures.took e))

pub returns-in_err-deadline-clause-none : goal.returns-in_err-deadline-clause-none
returns-in_err-deadline-clause-none c = if_none c.from_residual-in_err-deadline.result (λ x y z rest s p q e. c.in_err-deadline.ensures.none z _ q (behind c.in_ok-issued.ensures.took (behind c.in_ok-last.ensures.took e)))
