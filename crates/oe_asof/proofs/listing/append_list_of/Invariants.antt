use Rattle.oe_asof.proofs.listing.append_list_of.Given as goal

abbrev pub ghosts-counted_list : goal.ghosts-counted_list
ghosts-counted_list a = record { name = a.blank.name; parts = a.blank.parts }
