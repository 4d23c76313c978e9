use Rattle.std.proofs.Common.{drop, ap, sym, ◌∙◌}
use Rattle.row_register.proofs.PartFacts.{if_none, behind}
use Rattle.row_register.proofs.groups.runway_end.Goals as goal

pub returns-in_err-approaches-clause-none : goal.returns-in_err-approaches-clause-none
returns-in_err-approaches-clause-none c =
    if_none c.from_residual-in_err-approaches.result (λ e rest plain is. c.in_err-approaches.ensures.none (record { kind = e.kind; planned = e.planned }) rest tt
    (behind c.in_ok-z.ensures.took (ap (drop 2) (sym c.in_ok-at.ensures.took ∙ is))))
