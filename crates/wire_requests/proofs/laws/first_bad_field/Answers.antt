use Rattle.wire_requests.proofs.FormLaw.{first_without}
use Rattle.wire_requests.proofs.laws.first_bad_field.Goals as goal

pub returns : goal.returns
returns c = first_without
