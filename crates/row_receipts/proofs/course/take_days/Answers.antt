use Rattle.row_register.proofs.PartFacts.{if_none, behind}
use Rattle.row_receipts.proofs.KindFacts.{days_limited}
use Rattle.row_receipts.proofs.course.take_days.Goals as goal

pub returns-in_err-effective-clause-none : goal.returns-in_err-effective-clause-none
returns-in_err-effective-clause-none c = if_none c.from_residual.result (λ x y h e. c.in_err-effective.ensures.none x _ (days_limited c.args.affirmed x y h).0 e)

pub returns-in_err-expiry-clause-none : goal.returns-in_err-expiry-clause-none
returns-in_err-expiry-clause-none c =
    if_none c.from_residual-in_err-expiry.result (λ x y h e. c.in_err-expiry.ensures.none y _ (days_limited c.args.affirmed x y h).1 (behind c.in_ok-effective.ensures.took e))
