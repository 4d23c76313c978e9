use Rattle.std.proofs.Common.{refl}
use Rattle.wire_values.proofs.LimitFacts.{raw_short}
use Rattle.wire_cursor.proofs.ShapeFacts.{in_1, in_2, past_1, past_2, took_1, took_2}
use Rattle.wire_cursor.proofs.ExitFacts.{stops_out}
use Rattle.wire_requests.proofs.register.heliport.Goals as goal

pub returns-in_err-category-clause-stops : goal.returns-in_err-category-clause-stops
returns-in_err-category-clause-stops c = stops_out _ _ c.from_residual-in_err-category.ensures.1 (past_1 c.in_ok-id.ensures.took (in_1 c.in_err-category.ensures.stops))

pub returns-in_err-a-clause-stops : goal.returns-in_err-a-clause-stops
returns-in_err-a-clause-stops c = stops_out _ _ c.from_residual-in_err-a.ensures.1 (past_1 c.in_ok-id.ensures.took (past_1 c.in_ok-category.ensures.took (in_2 c.in_err-a.ensures.stops)))

pub returns-in_err-b-clause-stops : goal.returns-in_err-b-clause-stops
returns-in_err-b-clause-stops c = stops_out _ _ c.from_residual-in_err-b.ensures.1 (past_1 c.in_ok-id.ensures.took (past_1 c.in_ok-category.ensures.took (past_2 c.in_ok-a.ensures.took (in_2 c.in_err-b.ensures.stops))))

pub returns-in_err-width-clause-stops : goal.returns-in_err-width-clause-stops
returns-in_err-width-clause-stops c = stops_out _ _ c.from_residual-in_err-width.ensures.1 (past_1 c.in_ok-id.ensures.took (past_1 c.in_ok-category.ensures.took (past_2 c.in_ok-a.ensures.took (past_2 c.in_ok-b.ensures.took (in_1 c.in_err-width.ensures.stops)))))

pub returns-in_err-elevation-clause-stops : goal.returns-in_err-elevation-clause-stops
returns-in_err-elevation-clause-stops c = stops_out _ _ c.from_residual-in_err-elevation.ensures.1 (past_1 c.in_ok-id.ensures.took (past_1 c.in_ok-category.ensures.took (past_2 c.in_ok-a.ensures.took (past_2 c.in_ok-b.ensures.took (past_1 c.in_ok-width.ensures.took c.in_err-elevation.ensures.stops)))))

pub returns-clause-took : goal.returns-clause-took
returns-clause-took c = rw (raw_short c.in_ok-width.width c.in_ok-width.ensures.short, raw_short c.in_ok-elevation.elevation c.in_ok-elevation.ensures.short) record {
  took = took_1 c.in_ok-id.ensures.took (took_1 c.in_ok-category.ensures.took (took_2 c.in_ok-a.ensures.took (took_2 c.in_ok-b.ensures.took (took_1 c.in_ok-width.ensures.took c.in_ok-elevation.ensures.took))));
  form_is = refl;
  valid = (c.in_ok-width.ensures.short, c.in_ok-elevation.ensures.short);
}
