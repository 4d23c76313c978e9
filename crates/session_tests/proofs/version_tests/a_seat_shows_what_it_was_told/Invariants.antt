use Rattle.std.proofs.Common.{Some}
use Rattle.std.specs.Arc.{arc_value}
use Rattle.session_tests.proofs.version_tests.a_seat_shows_what_it_was_told.Given as goal

-- the history that was just opened, its first value, and the number that it counts from
abbrev pub ghosts-publish_once : goal.ghosts-publish_once
ghosts-publish_once g a = record { book = a.opening; first = Some (arc_value a.first); base = 7 }
