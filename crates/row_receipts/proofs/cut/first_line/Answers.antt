use Rattle.row_register.proofs.PartFacts.{if_none}
use Rattle.row_receipts.proofs.CutFacts.{no_line}
use Rattle.row_receipts.proofs.cut.first_line.Goals as goal

pub returns-in_err-at-clause-none : goal.returns-in_err-at-clause-none
returns-in_err-at-clause-none c = if_none c.from_residual.result (λ line behind e. no_line c.args.text.now line behind c.in_err-at.ensures.none e)
