use Rattle.std.proofs.Common.{◌≡◌, ◌≢◌, ◌<◌, ◌-◌, ℕ, slice_index, ◌≤◌}
use Rattle.http_messages.specs.Feeds.{feeds_before}
use Rattle.http_messages.specs.declared.lines.TheConstants.{LINES}
use Rattle.http_messages.proofs.lines.behind_lines.Given as goal

abbrev pub invariant-loop-at : goal.invariant-loop-at
invariant-loop-at l = record {
  feeds : l.feeds ≡ feeds_before l.bytes l.at;
  most : l.feeds ≤ LINES;
  some : l.feeds ≡ LINES → 0 < l.at;
  feed : l.feeds ≡ LINES → slice_index l.bytes (l.at - 1) ≡ 10;
  earlier : (k : ℕ) → k < l.at → feeds_before l.bytes k ≢ LINES;
}
