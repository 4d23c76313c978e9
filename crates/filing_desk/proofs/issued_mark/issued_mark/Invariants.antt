use Rattle.filing_desk.proofs.issued_mark.issued_mark.Given as goal

abbrev pub ghosts-compared : goal.ghosts-compared
ghosts-compared a = record { name = a.blank.name; parts = a.blank.parts }
