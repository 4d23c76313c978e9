use Rattle.row_register.proofs.PartFacts.{if_none, behind}
use Rattle.row_cases.proofs.site.take_dates.Goals as goal

pub returns-in_err-start-clause-none : goal.returns-in_err-start-clause-none
returns-in_err-start-clause-none c = if_none c.from_residual.result (λ x y z rest p q r e. c.in_err-start.ensures.none x _ p e)

pub returns-in_err-permit-clause-none : goal.returns-in_err-permit-clause-none
returns-in_err-permit-clause-none c = if_none c.from_residual-in_err-permit.result (λ x y z rest p q r e. c.in_err-permit.ensures.none y _ q (behind c.in_ok-start.ensures.took e))

pub returns-in_err-fcc-clause-none : goal.returns-in_err-fcc-clause-none
returns-in_err-fcc-clause-none c = if_none c.from_residual-in_err-fcc.result (λ x y z rest p q r e. c.in_err-fcc.ensures.none z _ r (behind c.in_ok-permit.ensures.took (behind c.in_ok-start.ensures.took e)))
