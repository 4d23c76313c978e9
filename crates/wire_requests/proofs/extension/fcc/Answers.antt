use Rattle.std.proofs.Common.{refl}
use Rattle.wire_cursor.proofs.ShapeFacts.{in_1, past_1, took_1}
use Rattle.wire_cursor.proofs.ExitFacts.{stops_out}
use Rattle.wire_requests.proofs.extension.fcc.Goals as goal

pub returns-in_err-grant-clause-stops : goal.returns-in_err-grant-clause-stops
returns-in_err-grant-clause-stops c = stops_out _ _ c.from_residual-in_err-grant.ensures.1 (past_1 c.in_ok-case.ensures.took (in_1 c.in_err-grant.ensures.stops))

pub returns-in_err-completion-clause-stops : goal.returns-in_err-completion-clause-stops
returns-in_err-completion-clause-stops c = stops_out _ _ c.from_residual-in_err-completion.ensures.1 (past_1 c.in_ok-case.ensures.took (past_1 c.in_ok-grant.ensures.took c.in_err-completion.ensures.stops))

pub returns-clause-took : goal.returns-clause-took
returns-clause-took c = record { took = rw c.in_ok-completion.ensures.told (took_1 c.in_ok-case.ensures.took (took_1 c.in_ok-grant.ensures.took c.in_ok-completion.ensures.took)); form_is = refl; valid = (c.in_ok-case.ensures.good, c.in_ok-completion.ensures.limited) }
