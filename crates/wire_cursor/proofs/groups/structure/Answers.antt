use Rattle.wire_values.proofs.LimitFacts.{raw_short}
use Rattle.wire_cursor.proofs.ShapeFacts.{in_1, past_1, past_2, took_1, took_2}
use Rattle.wire_cursor.proofs.ExitFacts.{stops_out}
use Rattle.wire_cursor.proofs.groups.structure.Goals as goal

pub returns-in_err-terrain-clause-stops : goal.returns-in_err-terrain-clause-stops
returns-in_err-terrain-clause-stops c = stops_out _ _ c.from_residual-in_err-terrain.ensures.1 (past_2 c.in_ok-at.ensures.took (in_1 c.in_err-terrain.ensures.stops))

pub returns-in_err-height-clause-stops : goal.returns-in_err-height-clause-stops
returns-in_err-height-clause-stops c = stops_out _ _ c.from_residual-in_err-height.ensures.1 (past_2 c.in_ok-at.ensures.took (past_1 c.in_ok-terrain.ensures.took (in_1 c.in_err-height.ensures.stops)))

pub returns-in_err-kind-clause-stops : goal.returns-in_err-kind-clause-stops
returns-in_err-kind-clause-stops c = stops_out _ _ c.from_residual-in_err-kind.ensures.1 (past_2 c.in_ok-at.ensures.took (past_1 c.in_ok-terrain.ensures.took (past_1 c.in_ok-height.ensures.took (in_1 c.in_err-kind.ensures.stops))))

pub returns-in_err-mobile-clause-stops : goal.returns-in_err-mobile-clause-stops
returns-in_err-mobile-clause-stops c = stops_out _ _ c.from_residual-in_err-mobile.ensures.1 (past_2 c.in_ok-at.ensures.took (past_1 c.in_ok-terrain.ensures.took (past_1 c.in_ok-height.ensures.took (past_1 c.in_ok-kind.ensures.took (in_1 c.in_err-mobile.ensures.stops)))))

pub returns-in_err-flags-clause-stops : goal.returns-in_err-flags-clause-stops
returns-in_err-flags-clause-stops c = stops_out _ _ c.from_residual-in_err-flags.ensures.1 (past_2 c.in_ok-at.ensures.took (past_1 c.in_ok-terrain.ensures.took (past_1 c.in_ok-height.ensures.took (past_1 c.in_ok-kind.ensures.took (past_1 c.in_ok-mobile.ensures.took (in_1 c.in_err-flags.ensures.stops))))))

pub returns-in_err-on-clause-stops : goal.returns-in_err-on-clause-stops
returns-in_err-on-clause-stops c = stops_out _ _ c.from_residual-in_err-on.ensures.1 (past_2 c.in_ok-at.ensures.took (past_1 c.in_ok-terrain.ensures.took (past_1 c.in_ok-height.ensures.took (past_1 c.in_ok-kind.ensures.took (past_1 c.in_ok-mobile.ensures.took (past_1 c.in_ok-flags.ensures.took c.in_err-on.ensures.stops))))))

pub returns-clause-took : goal.returns-clause-took
returns-clause-took c =
    rw (raw_short c.in_ok-terrain.terrain c.in_ok-terrain.ensures.short, raw_short c.in_ok-height.height c.in_ok-height.ensures.short, raw_short c.in_ok-mobile.mobile c.in_ok-mobile.ensures.short)
    record {
      took = took_2 c.in_ok-at.ensures.took (took_1 c.in_ok-terrain.ensures.took (took_1 c.in_ok-height.ensures.took (took_1 c.in_ok-kind.ensures.took
          (took_1 c.in_ok-mobile.ensures.took (took_1 c.in_ok-flags.ensures.took c.in_ok-on.ensures.took)))));
      valid = (
        record {
          terrain_least = c.in_ok-terrain.ensures.within.0;
          terrain_most = c.in_ok-terrain.ensures.within.1;
          height_least = c.in_ok-height.ensures.within.0;
          height_most = c.in_ok-height.ensures.within.1;
          mobile_least = c.in_ok-mobile.ensures.within.0;
          mobile_most = c.in_ok-mobile.ensures.within.1;
        },
        c.in_ok-on.ensures.good,
      );
    }
