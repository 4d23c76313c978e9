use Rattle.row_receipts.proofs.RowFacts.{one_receipt}
use Rattle.row_receipts.proofs.receipt_laws.one_receipt_row.Goals as goal

pub returns : goal.returns
returns c = one_receipt c.one_outcome.ensures
