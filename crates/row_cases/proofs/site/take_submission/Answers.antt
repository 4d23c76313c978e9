use Rattle.std.proofs.Common.{drop, ap, sym, ◌∙◌}
use Rattle.row_register.proofs.PartFacts.{if_none}
use Rattle.row_cases.proofs.site.take_submission.Goals as goal

pub returns-in_err-dates-clause-none : goal.returns-in_err-dates-clause-none
returns-in_err-dates-clause-none c = if_none c.from_residual.result (λ s rest h e. c.in_err-dates.ensures.none s.start s.permit s.fcc _ h.start h.permit h.fcc e)

pub returns-in_err-manner-clause-none : goal.returns-in_err-manner-clause-none
returns-in_err-manner-clause-none c = if_none c.from_residual-in_err-manner.result (λ s rest h e. c.in_err-manner.ensures.none s.emergency s.statement _ (ap (drop 3) (sym c.in_ok-dates.ensures.took ∙ e)))

pub returns-in_err-filing-clause-none : goal.returns-in_err-filing-clause-none
returns-in_err-filing-clause-none c = if_none c.from_residual-in_err-filing.result (λ s rest h e. c.in_err-filing.ensures.none s.filing _ h.filing (ap (drop 2) (sym c.in_ok-manner.ensures.took ∙ (ap (drop 3) (sym c.in_ok-dates.ensures.took ∙ e)))))
