-- The contents of a store's two files, and the rows that the next load of them gives.
use Rattle.std.specs.Prelude.{◌≡◌, ◌⊎◌}
use Rattle.std.specs.FinMap as maps
use Rattle.sqlite_wal.specs.Recovery.{Image}
use Rattle.sqlite_trees.specs.Tree.{Trees}
use Rattle.sqlite.specs.Files.{HoldsDatabase, IsNothing, IsEmpty}
use Rattle.oe_keeper.specs.Kept.{Kept}
use Rattle.oe_sqlite.specs.Model.{AreRows}

-- the log and the database file hold the one table, with these rows
abbrev pub HoldsRows : Image → Kept → Type 0
HoldsRows image rows = (db : Trees) × ∥ HoldsDatabase image db ∥₁ × AreRows db rows

-- they are empty, or hold an empty database, as a crash while they are made leaves them
abbrev pub HoldsNone : Image → Type 0
HoldsNone image = IsNothing image ⊎ ∥ ((db : Trees) × HoldsDatabase image db × IsEmpty db) ∥₁

-- the rows that a load of the files gives
abbrev pub GiveRows : Image → Kept → Type 0
GiveRows image rows = HoldsRows image rows ⊎ (HoldsNone image × (rows ≡ maps.empty))
