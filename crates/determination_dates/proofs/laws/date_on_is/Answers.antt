use Rattle.determination_dates.proofs.DateFacts.{date_there}
use Rattle.determination_dates.proofs.laws.date_on_is.Goals as goal

pub returns : goal.returns
returns c = date_there
