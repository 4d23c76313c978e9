use Rattle.std.proofs.Common.{ap, ◌∙◌, length}
use Rattle.desk_machine.specs.Marks.{marks}
use Rattle.filing_desk.proofs.MarksAfter.{marks_are}
use Rattle.filing_desk.proofs.office.Office.marked.Goals as goal

pub returns : goal.returns
returns c = c.marked.ensures ∙ ap length (marks_are c.self.inside.desk c.self.inside.marks c.self.invariant.0 ∙ ap marks c.self.view_is)
