use Rattle.std.proofs.Common.{◌≡◌, ◌<◌, ℕ, false, get_or}
use Rattle.httparse.specs.Spans.{header_bytes}
use Rattle.httparse.specs.declared.spans.HeaderSpan.{HeaderSpan}
use Rattle.http_messages.specs.Frames.{is_close}
use Rattle.http_messages.proofs.head.has_close.Given as goal

abbrev pub invariant-loop-at : goal.invariant-loop-at
invariant-loop-at l = (k : ℕ) (d : HeaderSpan) → k < l.at → is_close (header_bytes l.bytes (get_or l.headers k d)) ≡ false
