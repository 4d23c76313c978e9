use Rattle.determination_dates.proofs.ComputedLaws.{issued_record_is}
use Rattle.determination_dates.proofs.laws.issued_record_is.Goals as goal

pub returns : goal.returns
returns c = issued_record_is
