use Rattle.std.proofs.Common.{◌≡◌, ◌<◌, ℕ, false, get_or}
use Rattle.httparse.specs.Spans.{header_bytes}
use Rattle.httparse.specs.declared.spans.HeaderSpan.{HeaderSpan}
use Rattle.http_messages.specs.Frames.{is_called}
use Rattle.http_messages.proofs.frame.first_field.Given as goal

abbrev pub invariant-loop-at : goal.invariant-loop-at
invariant-loop-at l = (k : ℕ) (d : HeaderSpan) → k < l.at → is_called l.name (header_bytes l.bytes (get_or l.headers k d)) ≡ false
