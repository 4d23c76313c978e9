use Rattle.airport_register.proofs.SameAmendments.{same_amendment}
use Rattle.airport_register.proofs.laws.same_amendment.Goals as goal

pub returns : goal.returns
returns c = same_amendment
