use Rattle.std.proofs.Common.{sym, ◌∙◌}
use Rattle.desk_receipts.proofs.Renewing.{left_alone, renewed_when}
use Rattle.desk_receipts.proofs.renewal.renew.Goals as goal

pub returns-then-is_empty-clause-renewed : goal.returns-then-is_empty-clause-renewed
returns-then-is_empty-clause-renewed g c = left_alone g.K.Keeper.Tells c.args.changes.now c.args.keeper.now (sym c.is_empty.ensures ∙ c.if-is_empty.true)

pub returns-clause-renewed : goal.returns-clause-renewed
returns-clause-renewed g c =
    renewed_when g.K.Keeper.Tells c.put_all.result c.args.changes.now c.args.keeper.now c.put_all.new.keeper (sym c.is_empty.ensures ∙ c.if-is_empty.false) c.put_all.ensures.made c.put_all.ensures.silent
