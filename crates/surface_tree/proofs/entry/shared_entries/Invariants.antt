use Rattle.std.proofs.Common.{◌≡◌, map, take, length}
use Rattle.surface_tree.specs.Parts.{content_of}
use Rattle.surface_tree.proofs.entry.shared_entries.Given as goal

abbrev pub invariant-loop-entry : goal.invariant-loop-entry
invariant-loop-entry g l = record { told : map content_of l.all.items ≡ map content_of (take l.entry-index l.entries); len : length l.all.items ≡ l.entry-index }
