use Rattle.std.proofs.Common.{refl}
use Rattle.wire_cursor.proofs.ShapeFacts.{in_1, in_4, past_1, past_4, took_1, took_4}
use Rattle.wire_cursor.proofs.ExitFacts.{stops_out}
use Rattle.wire_requests.proofs.register.runway.Goals as goal

pub returns-in_err-name-clause-stops : goal.returns-in_err-name-clause-stops
returns-in_err-name-clause-stops c = stops_out _ _ c.from_residual-in_err-name.ensures.1 (past_1 c.in_ok-id.ensures.took (in_1 c.in_err-name.ensures.stops))

pub returns-in_err-weight-clause-stops : goal.returns-in_err-weight-clause-stops
returns-in_err-weight-clause-stops c = stops_out _ _ c.from_residual-in_err-weight.ensures.1 (past_1 c.in_ok-id.ensures.took (past_1 c.in_ok-name.ensures.took (in_1 c.in_err-weight.ensures.stops)))

pub returns-in_err-pavement-clause-stops : goal.returns-in_err-pavement-clause-stops
returns-in_err-pavement-clause-stops c = stops_out _ _ c.from_residual-in_err-pavement.ensures.1 (past_1 c.in_ok-id.ensures.took (past_1 c.in_ok-name.ensures.took (past_1 c.in_ok-weight.ensures.took (in_1 c.in_err-pavement.ensures.stops))))

pub returns-in_err-end1-clause-stops : goal.returns-in_err-end1-clause-stops
returns-in_err-end1-clause-stops c = stops_out _ _ c.from_residual-in_err-end1.ensures.1 (past_1 c.in_ok-id.ensures.took (past_1 c.in_ok-name.ensures.took (past_1 c.in_ok-weight.ensures.took (past_1 c.in_ok-pavement.ensures.took (in_4 c.in_err-end1.ensures.stops)))))

pub returns-in_err-end2-clause-stops : goal.returns-in_err-end2-clause-stops
returns-in_err-end2-clause-stops c = stops_out _ _ c.from_residual-in_err-end2.ensures.1 (past_1 c.in_ok-id.ensures.took (past_1 c.in_ok-name.ensures.took (past_1 c.in_ok-weight.ensures.took (past_1 c.in_ok-pavement.ensures.took (past_4 c.in_ok-end1.ensures.took.took c.in_err-end2.ensures.stops)))))

pub returns-clause-took : goal.returns-clause-took
returns-clause-took c = record {
  took = took_1 c.in_ok-id.ensures.took (took_1 c.in_ok-name.ensures.took (took_1 c.in_ok-weight.ensures.took (took_1 c.in_ok-pavement.ensures.took (took_4 c.in_ok-end1.ensures.took.took c.in_ok-end2.ensures.took.took))));
  form_is = refl;
  valid = (c.in_ok-end1.ensures.took.short, c.in_ok-end2.ensures.took.short);
}
