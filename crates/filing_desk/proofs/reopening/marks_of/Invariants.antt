use Rattle.filing_desk.proofs.reopening.marks_of.Given as goal

abbrev pub ghosts-counted_marks : goal.ghosts-counted_marks
ghosts-counted_marks a = record { name = a.blank.name; parts = a.blank.parts }
