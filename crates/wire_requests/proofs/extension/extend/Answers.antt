use Rattle.std.proofs.Common.{refl}
use Rattle.wire_cursor.proofs.ShapeFacts.{in_1, past_1, took_1}
use Rattle.wire_cursor.proofs.ExitFacts.{stops_out}
use Rattle.wire_requests.proofs.extension.extend.Goals as goal

pub returns-in_err-months-clause-stops : goal.returns-in_err-months-clause-stops
returns-in_err-months-clause-stops c = stops_out _ _ c.from_residual-in_err-months.ensures.1 (past_1 c.in_ok-case.ensures.took (in_1 c.in_err-months.ensures.stops))

pub returns-in_err-progress-clause-stops : goal.returns-in_err-progress-clause-stops
returns-in_err-progress-clause-stops c = stops_out _ _ c.from_residual-in_err-progress.ensures.1 (past_1 c.in_ok-case.ensures.took (past_1 c.in_ok-months.ensures.took (in_1 c.in_err-progress.ensures.stops)))

pub returns-in_err-filed-clause-stops : goal.returns-in_err-filed-clause-stops
returns-in_err-filed-clause-stops c = stops_out _ _ c.from_residual-in_err-filed.ensures.1 (past_1 c.in_ok-case.ensures.took (past_1 c.in_ok-months.ensures.took (past_1 c.in_ok-progress.ensures.took (in_1 c.in_err-filed.ensures.stops))))

pub returns-in_err-warrant-clause-stops : goal.returns-in_err-warrant-clause-stops
returns-in_err-warrant-clause-stops c = stops_out _ _ c.from_residual-in_err-warrant.ensures.1 (past_1 c.in_ok-case.ensures.took (past_1 c.in_ok-months.ensures.took (past_1 c.in_ok-progress.ensures.took (past_1 c.in_ok-filed.ensures.took c.in_err-warrant.ensures.stops))))

pub returns-clause-took : goal.returns-clause-took
returns-clause-took c = record { took = took_1 c.in_ok-case.ensures.took (took_1 c.in_ok-months.ensures.took (took_1 c.in_ok-progress.ensures.took (took_1 c.in_ok-filed.ensures.took c.in_ok-warrant.ensures.took))); form_is = refl; valid = (c.in_ok-case.ensures.good, c.in_ok-months.ensures.good.0, c.in_ok-months.ensures.good.1, c.in_ok-filed.ensures.good) }
