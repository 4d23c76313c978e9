use Rattle.std.proofs.Common.{◌≡◌, ◌≤◌, ◌+◌, ◌-◌, length}
use Rattle.oe_journal.specs.Reading.{changes_within, changes_of}
use Rattle.oe_journal.proofs.ReadingLoop.{with_front}
use Rattle.oe_journal.proofs.parsing.changes_in.Given as goal

abbrev pub invariant-rest : goal.invariant-rest
invariant-rest l = record {
  read : with_front l.changes.items (changes_within (length l.bytes - length l.changes.items) l.rest) ≡ changes_of l.bytes;
  size : length l.changes.items + length l.rest ≤ length l.bytes;
}

abbrev pub decreases-rest : goal.decreases-rest
decreases-rest l = length l.rest
