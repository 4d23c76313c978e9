use Rattle.std.proofs.Common.{◌∷◌, ◌++◌, sym, ◌∙◌}
use Rattle.row_register.proofs.PartFacts.{if_none}
use Rattle.row_receipts.proofs.CutFacts.{one_cut}
use Rattle.row_receipts.proofs.cut.lines_of.Goals as goal

pub returns-in_err-second-clause-none : goal.returns-in_err-second-clause-none
returns-in_err-second-clause-none c =
    if_none c.from_residual-in_err-second.result (λ number told outcome h e.
    let same = one_cut _ number _ (told ++ 10 ∷ outcome) c.in_ok-first.ensures.line h (sym c.in_ok-first.ensures.cut ∙ e) in
    c.in_err-second.ensures.none told outcome same.behind_is)
