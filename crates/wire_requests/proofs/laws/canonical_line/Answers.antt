use Rattle.wire_requests.proofs.LineFacts.{canonical}
use Rattle.wire_requests.proofs.laws.canonical_line.Goals as goal

pub returns : goal.returns
returns c = canonical
