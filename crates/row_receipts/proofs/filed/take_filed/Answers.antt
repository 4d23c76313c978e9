use Rattle.row_register.proofs.PartFacts.{if_none, behind}
use Rattle.row_receipts.proofs.filed.take_filed.Goals as goal

pub returns-in_err-case-clause-none : goal.returns-in_err-case-clause-none
returns-in_err-case-clause-none c =
    if_none c.from_residual-in_err-case.result (λ n in_time fcc explained h k l e. c.in_err-case.ensures.none (record { number = n }) _ h (behind c.in_ok-next.ensures.some e))
