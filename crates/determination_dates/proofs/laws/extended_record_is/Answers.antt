use Rattle.determination_dates.proofs.ComputedLaws.{extended_record_is}
use Rattle.determination_dates.proofs.laws.extended_record_is.Goals as goal

pub returns : goal.returns
returns c = extended_record_is
