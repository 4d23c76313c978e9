use Rattle.std.proofs.Common.{refl}
use Rattle.wire_cursor.proofs.ShapeFacts.{past_1, took_1}
use Rattle.wire_cursor.proofs.ExitFacts.{stops_out}
use Rattle.wire_requests.proofs.determination.determine.Goals as goal

pub returns-in_err-finding-clause-stops : goal.returns-in_err-finding-clause-stops
returns-in_err-finding-clause-stops c = stops_out _ _ c.from_residual-in_err-finding.ensures.1 (past_1 c.in_ok-case.ensures.took c.in_err-finding.ensures.stops)

pub returns-clause-took : goal.returns-clause-took
returns-clause-took c = record { took = took_1 c.in_ok-case.ensures.took c.in_ok-finding.ensures.took; form_is = refl; valid = c.in_ok-case.ensures.good }
