use Rattle.airfields.proofs.SameStructures.{same_site}
use Rattle.airfields.proofs.laws.same_structure.Goals as goal

pub returns : goal.returns
returns c = same_site
