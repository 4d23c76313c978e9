use Rattle.row_receipts.proofs.OneOutcome.{one_of_act}
use Rattle.row_receipts.proofs.outcome_laws.one_outcome.Goals as goal

pub returns : goal.returns
returns c = one_of_act c.one_filing_row.ensures
