use Rattle.std.proofs.Common.{◌≡◌, ap, ◌∙◌, subst, List, ℕ}
use Rattle.std.specs.Prelude.{IfOk}
use Rattle.desk_machine.specs.Marks.{marks}
use Rattle.filing_desk.proofs.MarksAfter.{marks_are}
use Rattle.filing_desk.proofs.office.Office.review.Goals as goal

pub returns : goal.returns
returns c = subst (λ (ns : List ℕ). IfOk c.list.result (λ l. l ≡ ns)) (marks_are c.self.inside.desk c.self.inside.marks c.self.invariant.0 ∙ ap marks c.self.view_is) c.list.ensures
