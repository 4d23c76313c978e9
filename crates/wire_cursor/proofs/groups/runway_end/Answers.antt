use Rattle.wire_values.proofs.LimitFacts.{raw_short}
use Rattle.wire_cursor.proofs.ShapeFacts.{took_1, took_2, past_1, past_2, in_1}
use Rattle.wire_cursor.proofs.ExitFacts.{stops_out}
use Rattle.wire_cursor.proofs.groups.runway_end.Goals as goal

pub returns-in_err-z-clause-stops : goal.returns-in_err-z-clause-stops
returns-in_err-z-clause-stops c = stops_out _ _ c.from_residual-in_err-z.ensures.1 (past_2 c.in_ok-at.ensures.took (in_1 c.in_err-z.ensures.stops))

pub returns-in_err-approaches-clause-stops : goal.returns-in_err-approaches-clause-stops
returns-in_err-approaches-clause-stops c =
    stops_out _ _ c.from_residual-in_err-approaches.ensures.1 (past_2 c.in_ok-at.ensures.took (past_1 c.in_ok-z.ensures.took c.in_err-approaches.ensures.stops))

pub returns-clause-took : goal.returns-clause-took
returns-clause-took c = rw (raw_short c.in_ok-z.z c.in_ok-z.ensures.short) record {
  took = took_2 c.in_ok-at.ensures.took (took_1 c.in_ok-z.ensures.took c.in_ok-approaches.ensures.took);
  short = c.in_ok-z.ensures.short;
}
