use Rattle.std.proofs.Common.{arith, ◌≡◌, ◌==◌, false, sym, ◌∙◌}
use Rattle.row_register.proofs.PartFacts.{one_more, all_of}
use Rattle.row_register.proofs.parts.first_place.Goals as goal

pub loop-at-preserved : goal.loop-at-preserved
loop-at-preserved c = one_more (λ b. (b == c.args.separator) ≡ false) _ _ c.loop-at.invariant c.loop-at-test.true (sym c.is_between.ensures ∙ c.if-is_between.false)

pub returns-clause-none : goal.returns-clause-none
returns-clause-none c = all_of (λ b. (b == c.args.separator) ≡ false) _ _ c.loop-at.invariant (omega (arith, c.loop-at-test.false, c.loop-at.auto.at-end))
