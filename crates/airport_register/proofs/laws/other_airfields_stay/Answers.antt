use Rattle.airport_register.proofs.Rules.{amended_elsewhere}
use Rattle.airport_register.proofs.laws.other_airfields_stay.Goals as goal

pub returns : goal.returns
returns c = amended_elsewhere
