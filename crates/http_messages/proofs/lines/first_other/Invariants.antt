use Rattle.std.proofs.Common.{◌≡◌, ◌<◌, ℕ, true, slice_index}
use Rattle.httparse.specs.Grammar.{is_token_byte}
use Rattle.http_messages.proofs.lines.first_other.Given as goal

abbrev pub invariant-loop-at : goal.invariant-loop-at
invariant-loop-at l = (k : ℕ) → k < l.at → is_token_byte (slice_index l.text k) ≡ true
