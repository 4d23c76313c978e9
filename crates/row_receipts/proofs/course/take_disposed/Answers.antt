use Rattle.std.proofs.Common.{drop, ap, sym, ◌∙◌}
use Rattle.row_register.proofs.PartFacts.{if_none}
use Rattle.row_receipts.proofs.course.take_disposed.Goals as goal

pub returns-in_err-disposal-clause-none : goal.returns-in_err-disposal-clause-none
returns-in_err-disposal-clause-none c =
    if_none c.from_residual-in_err-disposal.result (λ a x y h e. c.in_err-disposal.ensures.none (record { affirm = a }) _ tt (ap (drop 2) (sym c.in_ok-take_head.ensures.took ∙ e)))
