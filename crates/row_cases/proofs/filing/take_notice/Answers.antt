use Rattle.std.proofs.Common.{drop, ap, sym, ◌∙◌}
use Rattle.row_register.proofs.PartFacts.{if_none}
use Rattle.row_cases.proofs.filing.take_notice.Goals as goal

pub returns-in_err-submission-clause-none : goal.returns-in_err-submission-clause-none
returns-in_err-submission-clause-none c = if_none c.from_residual.result (λ s received form end rest h p q e. c.in_err-submission.ensures.none s _ h e)

pub returns-in_err-standing-clause-none : goal.returns-in_err-standing-clause-none
returns-in_err-standing-clause-none c = if_none c.from_residual-in_err-standing.result (λ s received form end rest h p q e. c.in_err-standing.ensures.none received form end _ p q (ap (drop 13) (sym c.in_ok-submission.ensures.took ∙ e)))
