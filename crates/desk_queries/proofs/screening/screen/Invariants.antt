use Rattle.desk_queries.proofs.screening.screen.Given as goal

abbrev pub ghosts-counted_screen : goal.ghosts-counted_screen
ghosts-counted_screen a = record { name = a.blank.name; parts = a.blank.parts }
