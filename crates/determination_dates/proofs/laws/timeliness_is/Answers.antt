use Rattle.determination_dates.proofs.ComputedLaws.{timeliness_is}
use Rattle.determination_dates.proofs.laws.timeliness_is.Goals as goal

pub returns : goal.returns
returns c = timeliness_is
