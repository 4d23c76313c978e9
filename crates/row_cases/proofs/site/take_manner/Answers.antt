use Rattle.row_register.proofs.PartFacts.{if_none, behind}
use Rattle.row_cases.proofs.site.take_manner.Goals as goal

pub returns-in_err-urgency-clause-none : goal.returns-in_err-urgency-clause-none
returns-in_err-urgency-clause-none c = if_none c.from_residual.result (λ x y rest e. c.in_err-urgency.ensures.none (record { emergency = x }) _ tt e)

pub returns-in_err-statement-clause-none : goal.returns-in_err-statement-clause-none
returns-in_err-statement-clause-none c = if_none c.from_residual-in_err-statement.result (λ x y rest e. c.in_err-statement.ensures.none (record { explains = y }) _ tt (behind c.in_ok-urgency.ensures.took e))
