use Rattle.std.proofs.Common.{sym, refl, subst, arith, ◌-◌, List, Option}
use Rattle.review_marks.specs.declared.row.Row.{Row}
use Rattle.filing_desk.proofs.Closing.{IsClosedTo, closed_on}
use Rattle.filing_desk.proofs.marking.close_fallen.Goals as goal

pub loop-number-preserved : goal.loop-number-preserved
loop-number-preserved c =
    subst (λ (rows : List (Option Row)). IsClosedTo c.args.desk.now c.args.marks.now (c.loop-number.number - 1) rows) (sym c.close_fallen_one.ensures)
    (closed_on c.args.desk.now c.args.marks.now c.loop-number.marks c.loop-number.number _ (omega (arith, c.loop-number-test.true)) refl c.loop-number.invariant)
