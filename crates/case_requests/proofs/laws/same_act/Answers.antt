use Rattle.case_requests.proofs.SameActs.{same_act}
use Rattle.case_requests.proofs.laws.same_act.Goals as goal

pub returns : goal.returns
returns c = same_act
