use Rattle.std.proofs.Common.{arith, refl, sym, ◌∙◌}
use Rattle.row_register.proofs.PartFacts.{parts_joined}
use Rattle.row_receipts.proofs.KindFacts.{no_form}
use Rattle.row_receipts.proofs.filed.form_came.Goals as goal

pub returns-in-Some : goal.returns-in-Some
returns-in-Some c = ((refl, omega arith), parts_joined c.args.text.now _ _ (sym c.new.ensures ∙ c.in-Some.ensures.took))

pub returns-in-None : goal.returns-in-None
returns-in-None c = no_form c.args.text.now c.args.case (omega arith) (λ late h e. c.in-None.ensures.none late h (c.new.ensures ∙ e))
