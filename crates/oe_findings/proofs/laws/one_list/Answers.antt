use Rattle.airfield_findings.proofs.Once.{areas_same}
use Rattle.oe_findings.proofs.laws.one_list.Goals as goal

pub returns : goal.returns
returns w = areas_same
