use Rattle.std.proofs.Common.{[], drop, ap, sym, ◌∙◌}
use Rattle.row_register.proofs.PartFacts.{if_none, behind}
use Rattle.row_register.proofs.runway.runway.Goals as goal

pub returns-in_err-weight-clause-none : goal.returns-in_err-weight-clause-none
returns-in_err-weight-clause-none c = if_none c.from_residual.result (λ r plain e. c.in_err-weight.ensures.none (record { utility = r.utility }) _ tt e)

pub returns-in_err-pavement-clause-none : goal.returns-in_err-pavement-clause-none
returns-in_err-pavement-clause-none c =
    if_none c.from_residual-in_err-pavement.result (λ r plain e. c.in_err-pavement.ensures.none (record { hard = r.hard }) _ tt (behind c.in_ok-weight.ensures.took e))

pub returns-in_err-end1-clause-none : goal.returns-in_err-end1-clause-none
returns-in_err-end1-clause-none c =
    if_none c.from_residual-in_err-end1.result (λ r plain e. c.in_err-end1.ensures.none r.end1 _ plain.0 (behind c.in_ok-pavement.ensures.took (behind c.in_ok-weight.ensures.took e)))

pub returns-in_err-end2-clause-none : goal.returns-in_err-end2-clause-none
returns-in_err-end2-clause-none c =
    if_none c.from_residual-in_err-end2.result (λ r plain e. c.in_err-end2.ensures.none r.end2 [] plain.1
    (ap (drop 4) (sym c.in_ok-end1.ensures.took ∙ behind c.in_ok-pavement.ensures.took (behind c.in_ok-weight.ensures.took e))))
