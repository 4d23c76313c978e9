use Rattle.std.proofs.Common.{◌≡◌, take}
use Rattle.oe_journal.specs.Spelling.{spelled, AreChanges}
use Rattle.oe_journal.proofs.writing.payload_of.Given as goal

abbrev pub invariant-changes : goal.invariant-changes
invariant-changes l = record { bytes : l.out.items ≡ spelled (take l.change-index l.changes); fits : AreChanges (take l.change-index l.changes) }
