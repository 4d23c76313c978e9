use Rattle.std.proofs.Common.{drop, ap, sym, ◌∙◌}
use Rattle.row_register.proofs.PartFacts.{if_none, behind}
use Rattle.row_receipts.proofs.course.take_extended.Goals as goal

pub returns-in_err-expiry-clause-none : goal.returns-in_err-expiry-clause-none
returns-in_err-expiry-clause-none c =
    if_none c.from_residual-in_err-expiry.result (λ x y h k e. c.in_err-expiry.ensures.none x _ h (ap (drop 2) (sym c.in_ok-take_head.ensures.took ∙ e)))

pub returns-in_err-last_day-clause-none : goal.returns-in_err-last_day-clause-none
returns-in_err-last_day-clause-none c =
    if_none c.from_residual-in_err-last_day.result
    (λ x y h k e. c.in_err-last_day.ensures.none y _ k (behind c.in_ok-expiry.ensures.took (ap (drop 2) (sym c.in_ok-take_head.ensures.took ∙ e))))
