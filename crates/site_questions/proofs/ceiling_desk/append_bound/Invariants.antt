use Rattle.site_questions.proofs.ceiling_desk.append_bound.Given as goal

abbrev pub ghosts-append_counted_bound : goal.ghosts-append_counted_bound
ghosts-append_counted_bound a = record { name = a.blank.name; parts = a.blank.parts }
