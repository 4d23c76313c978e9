use Rattle.std.proofs.Common.{take}
use Rattle.std.specs.FinMap as maps
use Rattle.desk_tables.specs.Opening.{unread_of}
use Rattle.desk_tables.specs.Parts.{Reads}
use Rattle.desk_tables.proofs.opening.read_all.Given as goal

-- the rows so far are read
abbrev pub invariant-loop-i : goal.invariant-loop-i
invariant-loop-i l = Reads l.layout (unread_of l.tables) (take l.i (maps.entries l.tables)) l.part
