use Rattle.std.proofs.Common.{Some}
use Rattle.desk_machine.specs.States.{last_number}
use Rattle.desk_service.proofs.service.serve.Given as goal

-- the history that was just made, and the airfields and the last entry of the clerk
abbrev pub ghosts-serve_named-J-Naming : goal.ghosts-serve_named-J-Naming
ghosts-serve_named-J-Naming g a = record { book = a.history; first = Some a.clerk.state.register; base = last_number a.clerk.state }

-- the state of the clerk
abbrev pub ghosts-serve_named-J-Opening : goal.ghosts-serve_named-J-Opening
ghosts-serve_named-J-Opening g a = record { opening = a.clerk.state }
