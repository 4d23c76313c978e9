use Rattle.std.proofs.Common.{All, take, ◌≡◌, ◌==◌, false}
use Rattle.record_fields.proofs.fields.first_comma.Given as goal

abbrev pub invariant-loop-at : goal.invariant-loop-at
invariant-loop-at l = All (λ b. (b == 44) ≡ false) (take l.at l.text)
