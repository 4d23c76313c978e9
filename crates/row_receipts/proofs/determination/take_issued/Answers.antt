use Rattle.std.proofs.Common.{drop, ap, sym, ◌∙◌}
use Rattle.row_register.proofs.PartFacts.{if_none}
use Rattle.row_receipts.proofs.determination.take_issued.Goals as goal

pub returns-in_err-issue-clause-none : goal.returns-in_err-issue-clause-none
returns-in_err-issue-clause-none c =
    if_none c.from_residual-in_err-issue.result
    (λ decision last issued deadline effective expiry rest s h p q r e. c.in_err-issue.ensures.none decision last issued _ s h (ap (drop 2) (sym c.in_ok-take_head.ensures.took ∙ e)))

pub returns-in_err-course-clause-none : goal.returns-in_err-course-clause-none
returns-in_err-course-clause-none c =
    if_none c.from_residual-in_err-course.result
    (λ decision last issued deadline effective expiry rest s h p q r e. c.in_err-course.ensures.none deadline effective expiry _ p q r
    (ap (drop 3) (sym c.in_ok-issue.ensures.took ∙ ap (drop 2) (sym c.in_ok-take_head.ensures.took ∙ e))))
