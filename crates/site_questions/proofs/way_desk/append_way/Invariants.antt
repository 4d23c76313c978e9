use Rattle.site_questions.proofs.way_desk.append_way.Given as goal

abbrev pub ghosts-append_counted_way : goal.ghosts-append_counted_way
ghosts-append_counted_way a = record { name = a.blank.name; parts = a.blank.parts }
