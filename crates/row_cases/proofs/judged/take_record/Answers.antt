use Rattle.std.proofs.Common.{drop, ap, sym, ◌∙◌}
use Rattle.row_register.proofs.PartFacts.{if_none}
use Rattle.row_cases.proofs.judged.take_record.Goals as goal

pub returns-in_err-issue-clause-none : goal.returns-in_err-issue-clause-none
returns-in_err-issue-clause-none c = if_none c.from_residual.result (λ r last rest h s e. c.in_err-issue.ensures.none last r.issued r.deadline _ s h.issued h.deadline e)

pub returns-in_err-course-clause-none : goal.returns-in_err-course-clause-none
returns-in_err-course-clause-none c = if_none c.from_residual-in_err-course.result (λ r last rest h s e. c.in_err-course.ensures.none r.ordinary r.pending r.affirmed _ h.ordinary h.affirmed (ap (drop 3) (sym c.in_ok-issue.ensures.took ∙ e)))

pub returns-in_err-extended-clause-none : goal.returns-in_err-extended-clause-none
returns-in_err-extended-clause-none c = if_none c.from_residual-in_err-extended.result (λ r last rest h s e. c.in_err-extended.ensures.none r.set_expiry r.extensions r.revisions _ h.set_expiry h.extensions h.revisions (ap (drop 3) (sym c.in_ok-course.ensures.took ∙ (ap (drop 3) (sym c.in_ok-issue.ensures.took ∙ e)))))
