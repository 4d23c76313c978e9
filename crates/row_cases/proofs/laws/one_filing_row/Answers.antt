use Rattle.row_cases.proofs.OneCase.{one_filing}
use Rattle.row_cases.proofs.laws.one_filing_row.Goals as goal

pub returns : goal.returns
returns c = one_filing
