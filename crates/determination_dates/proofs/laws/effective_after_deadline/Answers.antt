use Rattle.determination_dates.proofs.Issues.{effective_after}
use Rattle.determination_dates.proofs.laws.effective_after_deadline.Goals as goal

pub returns : goal.returns
returns c = effective_after
