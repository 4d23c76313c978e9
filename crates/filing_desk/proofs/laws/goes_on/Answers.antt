use Rattle.filing_desk.proofs.Deciding.{went_on}
use Rattle.filing_desk.proofs.laws.goes_on.Goals as goal

pub returns : goal.returns
returns g c = went_on
