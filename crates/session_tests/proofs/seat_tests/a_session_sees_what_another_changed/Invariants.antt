use Rattle.std.proofs.Common.{Some}
use Rattle.desk_machine.specs.States.{empty, last_number}
use Rattle.session_tests.proofs.seat_tests.a_session_sees_what_another_changed.Given as goal

-- the history that was just made, and the airfields and the last entry of an empty desk
abbrev pub ghosts-look_on_one_clerk-J-Naming : goal.ghosts-look_on_one_clerk-J-Naming
ghosts-look_on_one_clerk-J-Naming g a = record { book = a.history; first = Some empty.register; base = last_number empty }

-- its state
abbrev pub ghosts-look_on_one_clerk-J-Opening : goal.ghosts-look_on_one_clerk-J-Opening
ghosts-look_on_one_clerk-J-Opening g a = record { opening = empty }
