use Rattle.std.proofs.Common.{◌≡◌, ◌<◌, ℕ, true, slice_index}
use Rattle.httparse.specs.Grammar.{is_uri_byte}
use Rattle.http_messages.proofs.lines.is_all_uri.Given as goal

abbrev pub invariant-loop-byte : goal.invariant-loop-byte
invariant-loop-byte l = (k : ℕ) → k < l.byte-index → is_uri_byte (slice_index l.text k) ≡ true
