use Rattle.std.proofs.Common.{◌≡◌, ◌∷◌, take}
use Rattle.std.specs.List.{flat_map}
use Rattle.std.specs.FinMap as maps
use Rattle.row_register.specs.declared.desk.DeskRow.TheVariants as days
use Rattle.desk_tables.specs.Changes.{put_desk}
use Rattle.desk_tables.specs.Opening.{renewed_filing}
use Rattle.desk_tables.proofs.renewal.renewal.Given as goal

-- the changes of the rows so far
abbrev pub invariant-loop-i : goal.invariant-loop-i
invariant-loop-i l = l.list ≡ put_desk days.Format ∷ flat_map renewed_filing (take l.i (maps.entries l.tables))
