use Rattle.row_register.proofs.PartFacts.{if_none, behind}
use Rattle.row_cases.proofs.filing.take_standing.Goals as goal

pub returns-in_err-received-clause-none : goal.returns-in_err-received-clause-none
returns-in_err-received-clause-none c = if_none c.from_residual.result (λ x y z rest p q e. c.in_err-received.ensures.none x _ p e)

pub returns-in_err-form-clause-none : goal.returns-in_err-form-clause-none
returns-in_err-form-clause-none c = if_none c.from_residual-in_err-form.result (λ x y z rest p q e. c.in_err-form.ensures.none y _ q (behind c.in_ok-received.ensures.took e))

pub returns-in_err-end-clause-none : goal.returns-in_err-end-clause-none
returns-in_err-end-clause-none c = if_none c.from_residual-in_err-end.result (λ x y z rest p q e. c.in_err-end.ensures.none z _ (behind c.in_ok-form.ensures.took (behind c.in_ok-received.ensures.took e)))
