use Rattle.determination_dates.proofs.ComputedLaws.{revised_record_is}
use Rattle.determination_dates.proofs.laws.revised_record_is.Goals as goal

pub returns : goal.returns
returns c = revised_record_is
