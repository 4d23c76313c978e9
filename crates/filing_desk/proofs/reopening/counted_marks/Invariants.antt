use Rattle.filing_desk.specs.Marked.{AreMarksTo}
use Rattle.filing_desk.proofs.reopening.counted_marks.Given as goal

abbrev pub invariant-loop-place : goal.invariant-loop-place
invariant-loop-place g l = AreMarksTo l.desk l.place l.marks
