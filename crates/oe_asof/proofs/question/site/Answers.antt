use Rattle.std.proofs.Common.{arith}
use Rattle.wire_cursor.proofs.ShapeFacts.{bad_here, bad_after}
use Rattle.oe_asof.proofs.LineFacts.{site_wrong, wrong_out}
use Rattle.oe_asof.proofs.question.site.Goals as goal

pub returns-in_err-filing-clause-bad : goal.returns-in_err-filing-clause-bad
returns-in_err-filing-clause-bad c =
    wrong_out _ _ _ c.from_residual.ensures.1 (site_wrong c.args.fields c.new-cursor.result _ _ c.new-cursor.ensures (bad_here c.in_err-filing.ensures.stops) (omega arith))

pub returns-in_err-end-clause-bad : goal.returns-in_err-end-clause-bad
returns-in_err-end-clause-bad c =
    wrong_out _ _ _ c.from_residual-in_err-end.ensures.1 (site_wrong c.args.fields c.new-cursor.result _ _ c.new-cursor.ensures (bad_after c.in_ok-filing.ensures.took.took c.in_err-end.ensures.bad) (omega arith))
