use Rattle.std.proofs.Common.{drop, ap, sym, ◌∙◌}
use Rattle.row_register.proofs.PartFacts.{if_none}
use Rattle.row_receipts.proofs.course.take_expiry.Goals as goal

pub returns-in_err-expiry-clause-none : goal.returns-in_err-expiry-clause-none
returns-in_err-expiry-clause-none c =
    if_none c.from_residual-in_err-expiry.result (λ d h e. c.in_err-expiry.ensures.none d _ h (ap (drop 2) (sym c.in_ok-take_head.ensures.took ∙ e)))
