use Rattle.row_cases.proofs.Renewing.{renewed}
use Rattle.row_cases.proofs.laws.renewed_rows.Goals as goal

pub returns : goal.returns
returns c = renewed
