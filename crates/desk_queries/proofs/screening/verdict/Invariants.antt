use Rattle.desk_queries.proofs.screening.verdict.Given as goal

abbrev pub ghosts-counted_verdict : goal.ghosts-counted_verdict
ghosts-counted_verdict a = record { name = a.blank.name; parts = a.blank.parts }
