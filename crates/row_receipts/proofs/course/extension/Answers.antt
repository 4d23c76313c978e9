use Rattle.std.proofs.Common.{arith, refl, sym, ◌∙◌}
use Rattle.row_receipts.proofs.KindFacts.{extended_told, no_extended}
use Rattle.row_receipts.proofs.course.extension.Goals as goal

pub returns-in-Some : goal.returns-in-Some
returns-in-Some c = (
  (refl, c.in-Some.ensures.limited.0, c.in-Some.ensures.limited.1),
  extended_told c.args.text.now c.args.case _ _ (sym c.new.ensures ∙ c.in-Some.ensures.took),
)

pub returns-in-None : goal.returns-in-None
returns-in-None c = no_extended c.args.text.now c.args.case (omega arith) (λ x y h k e. c.in-None.ensures.none x y h k (c.new.ensures ∙ e))
