use Rattle.std.proofs.Common.{refl}
use Rattle.wire_cursor.proofs.ShapeFacts.{in_1, past_1, took_1}
use Rattle.wire_cursor.proofs.ExitFacts.{stops_out}
use Rattle.wire_requests.proofs.filing.file.Goals as goal

pub returns-in_err-permit-clause-stops : goal.returns-in_err-permit-clause-stops
returns-in_err-permit-clause-stops c = stops_out _ _ c.from_residual-in_err-permit.ensures.1 (past_1 c.in_ok-start.ensures.took (in_1 c.in_err-permit.ensures.stops))

pub returns-in_err-fcc-clause-stops : goal.returns-in_err-fcc-clause-stops
returns-in_err-fcc-clause-stops c = stops_out _ _ c.from_residual-in_err-fcc.ensures.1 (past_1 c.in_ok-start.ensures.took (past_1 c.in_ok-permit.ensures.took (in_1 c.in_err-fcc.ensures.stops)))

pub returns-in_err-urgency-clause-stops : goal.returns-in_err-urgency-clause-stops
returns-in_err-urgency-clause-stops c = stops_out _ _ c.from_residual-in_err-urgency.ensures.1 (past_1 c.in_ok-start.ensures.took (past_1 c.in_ok-permit.ensures.took (past_1 c.in_ok-fcc.ensures.took (in_1 c.in_err-urgency.ensures.stops))))

pub returns-in_err-statement-clause-stops : goal.returns-in_err-statement-clause-stops
returns-in_err-statement-clause-stops c = stops_out _ _ c.from_residual-in_err-statement.ensures.1 (past_1 c.in_ok-start.ensures.took (past_1 c.in_ok-permit.ensures.took (past_1 c.in_ok-fcc.ensures.took (past_1 c.in_ok-urgency.ensures.took (in_1 c.in_err-statement.ensures.stops)))))

pub returns-in_err-filing-clause-stops : goal.returns-in_err-filing-clause-stops
returns-in_err-filing-clause-stops c = stops_out _ _ c.from_residual-in_err-filing.ensures.1 (past_1 c.in_ok-start.ensures.took (past_1 c.in_ok-permit.ensures.took (past_1 c.in_ok-fcc.ensures.took (past_1 c.in_ok-urgency.ensures.took (past_1 c.in_ok-statement.ensures.took c.in_err-filing.ensures.stops)))))

pub returns-clause-took : goal.returns-clause-took
returns-clause-took c = record { took = took_1 c.in_ok-start.ensures.took (took_1 c.in_ok-permit.ensures.took (took_1 c.in_ok-fcc.ensures.took (took_1 c.in_ok-urgency.ensures.took (took_1 c.in_ok-statement.ensures.took c.in_ok-filing.ensures.took.took)))); form_is = refl; valid = record { start = c.in_ok-start.ensures.good; permit = c.in_ok-permit.ensures.good; fcc = c.in_ok-fcc.ensures.good; filing = c.in_ok-filing.ensures.took.valid } }
