use Rattle.wire_cursor.proofs.ShapeFacts.{bad_here, bad_after}
use Rattle.wire_cursor.proofs.ExitFacts.{bad_out}
use Rattle.wire_requests.proofs.queries.verdict.Goals as goal

pub returns-in_err-filing-clause-bad : goal.returns-in_err-filing-clause-bad
returns-in_err-filing-clause-bad c = bad_out _ _ c.from_residual.ensures.1 (bad_here c.in_err-filing.ensures.stops)

pub returns-in_err-end-clause-bad : goal.returns-in_err-end-clause-bad
returns-in_err-end-clause-bad c = bad_out _ _ c.from_residual-in_err-end.ensures.1 (bad_after c.in_ok-filing.ensures.took.took c.in_err-end.ensures.bad)
