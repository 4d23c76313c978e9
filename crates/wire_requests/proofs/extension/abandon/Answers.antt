use Rattle.std.proofs.Common.{refl}
use Rattle.wire_requests.proofs.extension.abandon.Goals as goal

pub returns-clause-took : goal.returns-clause-took
returns-clause-took c = record { took = c.in_ok-case.ensures.took; form_is = refl; valid = c.in_ok-case.ensures.good }
