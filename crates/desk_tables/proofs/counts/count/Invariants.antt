use Rattle.std.proofs.Common.{◌≡◌, ◌≤◌}
use Rattle.std.specs.FinMap as maps
use Rattle.desk_tables.specs.Counts.{is_of}
use Rattle.desk_tables.proofs.WalkFacts.{passing}
use Rattle.desk_tables.proofs.counts.count.Given as goal

-- the rows so far
abbrev pub invariant-loop-i : goal.invariant-loop-i
invariant-loop-i l = (l.count ≡ passing (is_of l.kind) l.i (maps.entries l.tables)) × (l.count ≤ l.i)
