use Rattle.std.proofs.Common.{All, take, ◌≡◌, ◌==◌, false}
use Rattle.row_register.proofs.parts.first_place.Given as goal

abbrev pub invariant-loop-at : goal.invariant-loop-at
invariant-loop-at l = All (λ b. (b == l.separator) ≡ false) (take l.at l.text)
