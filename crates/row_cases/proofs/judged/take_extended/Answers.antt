use Rattle.row_register.proofs.PartFacts.{if_none, behind}
use Rattle.std.proofs.Common.{arith}
use Rattle.row_cases.proofs.judged.take_extended.Goals as goal

pub returns-in_err-set_expiry-clause-none : goal.returns-in_err-set_expiry-clause-none
returns-in_err-set_expiry-clause-none c = if_none c.from_residual.result (λ x y z rest p q r e. c.in_err-set_expiry.ensures.none x _ p e)

pub returns-in_err-extensions-clause-none : goal.returns-in_err-extensions-clause-none
returns-in_err-extensions-clause-none c = if_none c.from_residual-in_err-extensions.result (λ x y z rest p q r e. c.in_err-extensions.ensures.none y _ (omega (arith, q)) (behind c.in_ok-set_expiry.ensures.took e))

pub returns-in_err-revisions-clause-none : goal.returns-in_err-revisions-clause-none
returns-in_err-revisions-clause-none c = if_none c.from_residual-in_err-revisions.result (λ x y z rest p q r e. c.in_err-revisions.ensures.none z _ (omega (arith, r)) (behind c.in_ok-extensions.ensures.took (behind c.in_ok-set_expiry.ensures.took e)))
