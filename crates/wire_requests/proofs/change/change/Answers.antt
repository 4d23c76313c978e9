use Rattle.wire_cursor.proofs.ShapeFacts.{took_1, past_1, in_1, bad_here, bad_after}
use Rattle.wire_cursor.proofs.ExitFacts.{bad_out}
use Rattle.wire_requests.proofs.ReadFacts.{change_record, change_read}
use Rattle.wire_requests.proofs.change.change.Goals as goal

pub returns-in_err-caller-clause-bad : goal.returns-in_err-caller-clause-bad
returns-in_err-caller-clause-bad c = bad_out _ _ c.from_residual.ensures.1 (bad_here (in_1 c.in_err-caller.ensures.stops))

pub returns-in_err-key-clause-bad : goal.returns-in_err-key-clause-bad
returns-in_err-key-clause-bad c = bad_out _ _ c.from_residual-in_err-key.ensures.1 (bad_here (past_1 c.in_ok-caller.ensures.took (in_1 c.in_err-key.ensures.stops)))

pub returns-in_err-act-clause-bad : goal.returns-in_err-act-clause-bad
returns-in_err-act-clause-bad c =
    bad_out _ _ c.from_residual-in_err-act.ensures.1 (bad_here (past_1 c.in_ok-caller.ensures.took (past_1 c.in_ok-key.ensures.took c.in_err-act.ensures.stops)))

pub returns-in_err-end-clause-bad : goal.returns-in_err-end-clause-bad
returns-in_err-end-clause-bad c =
    bad_out _ _ c.from_residual-in_err-end.ensures.1
    (bad_after (took_1 c.in_ok-caller.ensures.took (took_1 c.in_ok-key.ensures.took c.in_ok-act.ensures.took.took)) c.in_err-end.ensures.bad)

pub invariant_of-result : goal.invariant_of-result
invariant_of-result c =
    change_record c.args.form _ _ c.requires c.in_ok-act.ensures.took
    (took_1 c.in_ok-caller.ensures.took (took_1 c.in_ok-key.ensures.took c.in_ok-act.ensures.took.took)) c.in_ok-end.ensures.none

pub returns-clause-read : goal.returns-clause-read
returns-clause-read c =
    change_read c.args.form _ _ c.requires c.in_ok-act.ensures.took
    (took_1 c.in_ok-caller.ensures.took (took_1 c.in_ok-key.ensures.took c.in_ok-act.ensures.took.took)) c.in_ok-end.ensures.none
