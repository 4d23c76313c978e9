use Rattle.std.proofs.Common.{sym, subst}
use Rattle.case_acts.specs.declared.effect.Step.TheVariants as steps
use Rattle.desk_machine.specs.States.{State}
use Rattle.desk_machine.specs.Marks.{Goes}
use Rattle.filing_desk.proofs.MarksAfter.{AreKept, kept_opened}
use Rattle.filing_desk.proofs.office.Office.open.Goals as goal

pub invariant_of-self-2 : goal.invariant_of-self-2
invariant_of-self-2 g c =
    let goes : Goes c.self.inside.desk (steps.CaseFiled c.args.case) = subst (λ (s : State). Goes s (steps.CaseFiled c.args.case)) (sym c.self.view_is) c.requires.goes in
    subst (λ (s : State). AreKept s c.self.inside.marks) (sym c.in_ok-open.ensures.done) (kept_opened c.self.inside.desk c.args.case c.self.inside.marks goes c.self.invariant)
