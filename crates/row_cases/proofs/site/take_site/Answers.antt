use Rattle.std.proofs.Common.{drop, ap, sym, ◌∙◌}
use Rattle.row_register.proofs.PartFacts.{if_none}
use Rattle.row_cases.proofs.site.take_site.Goals as goal

pub returns-in_err-marks-clause-none : goal.returns-in_err-marks-clause-none
returns-in_err-marks-clause-none c = if_none c.from_residual-in_err-marks.result (λ s rest h e. c.in_err-marks.ensures.none s.flags s.on _ h.1 (ap (drop 2) (sym c.in_ok-used.ensures.took ∙ (ap (drop 4) (sym c.in_ok-stand.ensures.took ∙ e)))))
