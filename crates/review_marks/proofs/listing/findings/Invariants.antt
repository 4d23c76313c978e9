use Rattle.review_marks.proofs.listing.findings.Given as goal

abbrev pub ghosts-counted_findings : goal.ghosts-counted_findings
ghosts-counted_findings a = record { name = a.blank.name; parts = a.blank.parts }
