use Rattle.std.proofs.Common.{◌≡◌}
use Rattle.desk_tables.specs.Parts.{entries_of as entries_in}
use Rattle.desk_tables.proofs.opening.entries_of.Given as goal

-- the entries of the places so far
abbrev pub invariant-loop-request : goal.invariant-loop-request
invariant-loop-request l = l.entries.items ≡ entries_in l.yielded
