use Rattle.std.proofs.Common.{arith, refl, sym, ◌∙◌}
use Rattle.row_receipts.proofs.KindFacts.{disposed_told, no_disposed}
use Rattle.row_receipts.proofs.course.decided_petition.Goals as goal

pub returns-in-Some : goal.returns-in-Some
returns-in-Some c = (
  (refl, c.in-Some.ensures.good),
  disposed_told c.args.text.now c.args.case _ _ _ c.in-Some.ensures.good (sym c.new.ensures ∙ c.in-Some.ensures.took),
)

pub returns-in-None : goal.returns-in-None
returns-in-None c = no_disposed c.args.text.now c.args.case (omega arith) (λ a x y h e. c.in-None.ensures.none a x y h (c.new.ensures ∙ e))
