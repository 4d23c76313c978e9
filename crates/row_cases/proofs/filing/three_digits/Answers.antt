use Rattle.std.proofs.Common.{arith, ◌/◌, ◌%◌}
use Rattle.row_register.proofs.PartFacts.{if_none}
use Rattle.row_cases.proofs.filing.three_digits.Goals as goal

pub returns-in_err-hundreds-clause-none : goal.returns-in_err-hundreds-clause-none
returns-in_err-hundreds-clause-none c = if_none c.from_residual.result (λ n p q r. c.in_err-hundreds.ensures.none (n / 100 % 10) (omega arith) p)

pub returns-in_err-tens-clause-none : goal.returns-in_err-tens-clause-none
returns-in_err-tens-clause-none c = if_none c.from_residual-in_err-tens.result (λ n p q r. c.in_err-tens.ensures.none (n / 10 % 10) (omega arith) q)

pub returns-in_err-ones-clause-none : goal.returns-in_err-ones-clause-none
returns-in_err-ones-clause-none c = if_none c.from_residual-in_err-ones.result (λ n p q r. c.in_err-ones.ensures.none (n % 10) (omega arith) r)
