use Rattle.wire_cursor.proofs.ShapeFacts.{bad_here, bad_after}
use Rattle.wire_cursor.proofs.ExitFacts.{bad_out}
use Rattle.wire_requests.proofs.queries.report.Goals as goal

pub returns-in_err-kind-clause-bad : goal.returns-in_err-kind-clause-bad
returns-in_err-kind-clause-bad c = bad_out _ _ c.from_residual.ensures.1 (bad_here c.in_err-kind.ensures.stops)

pub returns-in_err-end-clause-bad : goal.returns-in_err-end-clause-bad
returns-in_err-end-clause-bad c = bad_out _ _ c.from_residual-in_err-end.ensures.1 (bad_after c.in_ok-kind.ensures.took c.in_err-end.ensures.bad)
