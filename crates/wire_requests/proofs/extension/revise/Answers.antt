use Rattle.std.proofs.Common.{refl}
use Rattle.wire_values.proofs.LimitFacts.{raw_short}
use Rattle.wire_cursor.proofs.ShapeFacts.{in_1, past_1, took_1}
use Rattle.wire_cursor.proofs.ExitFacts.{stops_out}
use Rattle.wire_requests.proofs.extension.revise.Goals as goal

pub returns-in_err-progress-clause-stops : goal.returns-in_err-progress-clause-stops
returns-in_err-progress-clause-stops c = stops_out _ _ c.from_residual-in_err-progress.ensures.1 (past_1 c.in_ok-case.ensures.took (in_1 c.in_err-progress.ensures.stops))

pub returns-in_err-ground-clause-stops : goal.returns-in_err-ground-clause-stops
returns-in_err-ground-clause-stops c = stops_out _ _ c.from_residual-in_err-ground.ensures.1 (past_1 c.in_ok-case.ensures.took (past_1 c.in_ok-progress.ensures.took (in_1 c.in_err-ground.ensures.stops)))

pub returns-in_err-height-clause-stops : goal.returns-in_err-height-clause-stops
returns-in_err-height-clause-stops c = stops_out _ _ c.from_residual-in_err-height.ensures.1 (past_1 c.in_ok-case.ensures.took (past_1 c.in_ok-progress.ensures.took (past_1 c.in_ok-ground.ensures.took (in_1 c.in_err-height.ensures.stops))))

pub returns-in_err-finding-clause-stops : goal.returns-in_err-finding-clause-stops
returns-in_err-finding-clause-stops c = stops_out _ _ c.from_residual-in_err-finding.ensures.1 (past_1 c.in_ok-case.ensures.took (past_1 c.in_ok-progress.ensures.took (past_1 c.in_ok-ground.ensures.took (past_1 c.in_ok-height.ensures.took c.in_err-finding.ensures.stops))))

pub returns-clause-took : goal.returns-clause-took
returns-clause-took c =
    rw (raw_short c.in_ok-ground.ground c.in_ok-ground.ensures.short, raw_short c.in_ok-height.height c.in_ok-height.ensures.short)
    record {
      took = took_1 c.in_ok-case.ensures.took (took_1 c.in_ok-progress.ensures.took (took_1 c.in_ok-ground.ensures.took (took_1 c.in_ok-height.ensures.took c.in_ok-finding.ensures.took)));
      form_is = refl;
      valid = (
        c.in_ok-case.ensures.good,
        record {
          terrain_least = c.in_ok-ground.ensures.within.0;
          terrain_most = c.in_ok-ground.ensures.within.1;
          height_least = c.in_ok-height.ensures.within.0;
          height_most = c.in_ok-height.ensures.within.1;
        },
      );
    }
