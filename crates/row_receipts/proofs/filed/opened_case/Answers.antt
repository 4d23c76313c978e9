use Rattle.std.proofs.Common.{sym, ◌∙◌}
use Rattle.row_register.proofs.PartFacts.{parts_joined}
use Rattle.row_receipts.proofs.KindFacts.{no_filed}
use Rattle.row_receipts.proofs.filed.opened_case.Goals as goal

pub returns-in-Some : goal.returns-in-Some
returns-in-Some c = (c.in-Some.ensures.good, parts_joined c.args.text.now _ _ (sym c.new.ensures ∙ c.in-Some.ensures.took))

pub returns-in-None : goal.returns-in-None
returns-in-None c = no_filed c.args.text.now (λ n in_time fcc explained h k l e. c.in-None.ensures.none n in_time fcc explained h k l (c.new.ensures ∙ e))
