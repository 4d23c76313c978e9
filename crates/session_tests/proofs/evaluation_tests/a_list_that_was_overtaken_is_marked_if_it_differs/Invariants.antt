use Rattle.std.proofs.Common.{Some}
use Rattle.desk_machine.specs.States.{empty, last_number}
use Rattle.session_tests.proofs.evaluation_tests.a_list_that_was_overtaken_is_marked_if_it_differs.Given as goal

-- the history that was just made, and the airfields and the last entry of an empty desk
abbrev pub ghosts-overtake_once-J-Naming : goal.ghosts-overtake_once-J-Naming
ghosts-overtake_once-J-Naming g a = record { book = a.history; first = Some empty.register; base = last_number empty }

-- its state
abbrev pub ghosts-overtake_once-J-Opening : goal.ghosts-overtake_once-J-Opening
ghosts-overtake_once-J-Opening g a = record { opening = empty }
