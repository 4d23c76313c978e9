use Rattle.std.proofs.Common.{◌≡◌, take}
use Rattle.oe_keeper.specs.Kept.{rows_after_changes}
use Rattle.oe_journal.proofs.frames.change_all.Given as goal

abbrev pub invariant-changes : goal.invariant-changes
invariant-changes l = l.tables ≡ rows_after_changes l.fn.tables (take l.change-index l.changes)
