use Rattle.row_register.proofs.PartFacts.{if_none, behind}
use Rattle.row_cases.proofs.judged.take_course.Goals as goal

pub returns-in_err-ordinary-clause-none : goal.returns-in_err-ordinary-clause-none
returns-in_err-ordinary-clause-none c = if_none c.from_residual.result (λ x y z rest p q e. c.in_err-ordinary.ensures.none x _ p e)

pub returns-in_err-pending-clause-none : goal.returns-in_err-pending-clause-none
returns-in_err-pending-clause-none c = if_none c.from_residual-in_err-pending.result (λ x y z rest p q e. c.in_err-pending.ensures.none y _ (behind c.in_ok-ordinary.ensures.took e))

pub returns-in_err-affirmed-clause-none : goal.returns-in_err-affirmed-clause-none
returns-in_err-affirmed-clause-none c = if_none c.from_residual-in_err-affirmed.result (λ x y z rest p q e. c.in_err-affirmed.ensures.none z _ q (behind c.in_ok-pending.ensures.took (behind c.in_ok-ordinary.ensures.took e)))
