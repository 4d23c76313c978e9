use Rattle.determination_dates.proofs.ComputedLaws.{affirmed_record_is}
use Rattle.determination_dates.proofs.laws.affirmed_record_is.Goals as goal

pub returns : goal.returns
returns c = affirmed_record_is
