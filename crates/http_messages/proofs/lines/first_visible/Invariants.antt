use Rattle.std.proofs.Common.{◌≡◌, ◌<◌, ℕ, true, slice_index}
use Rattle.httparse.specs.Pieces.{is_newline}
use Rattle.http_messages.proofs.lines.first_visible.Given as goal

abbrev pub invariant-loop-at : goal.invariant-loop-at
invariant-loop-at l = (k : ℕ) → k < l.at → is_newline (slice_index l.bytes k) ≡ true
