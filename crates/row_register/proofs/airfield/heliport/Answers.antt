use Rattle.std.proofs.Common.{[], drop, ap, sym, ◌∙◌}
use Rattle.row_register.proofs.PartFacts.{if_none, behind}
use Rattle.row_register.proofs.airfield.heliport.Goals as goal

pub returns-in_err-measures-clause-none : goal.returns-in_err-measures-clause-none
returns-in_err-measures-clause-none c =
    if_none c.from_residual-in_err-measures.result (λ h plain e. c.in_err-measures.ensures.none h.width h.elevation [] plain.0 plain.1
    (ap (drop 4) (sym c.in_ok-ends.ensures.took ∙ behind c.in_ok-category.ensures.took e)))
