use Rattle.determination_dates.proofs.ComputedLaws.{deadline_date_is}
use Rattle.determination_dates.proofs.laws.deadline_date_is.Goals as goal

pub returns : goal.returns
returns c = deadline_date_is
