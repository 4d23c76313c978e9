use Rattle.std.proofs.Common.{arith, refl, sym, ◌∙◌}
use Rattle.row_receipts.proofs.KindFacts.{fcc_told, no_fcc_act}
use Rattle.row_receipts.proofs.course.fcc_act.Goals as goal

pub returns-in-Some : goal.returns-in-Some
returns-in-Some c = ((refl, c.in-Some.ensures.limited), fcc_told c.args.text.now c.args.case _ (sym c.new.ensures ∙ c.in-Some.ensures.took))

pub returns-in-None : goal.returns-in-None
returns-in-None c = no_fcc_act c.args.text.now c.args.case (omega arith) (λ d h e. c.in-None.ensures.none d h (c.new.ensures ∙ e))
