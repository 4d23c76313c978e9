use Rattle.desk_generator.proofs.asking.is_obstruction.Given as goal

abbrev pub ghosts-is_counted_obstruction : goal.ghosts-is_counted_obstruction
ghosts-is_counted_obstruction a = record { name = a.blank.name; parts = a.blank.parts }
