-- What a store that holds rows may leave of its files.
use Rattle.std.proofs.Common.{◌≡◌, ◌⊎◌, inl, inr, IsTrue, refl, subst}
use Rattle.std.proofs.Math.Logic.{∥∥₁_map}
use Rattle.sqlite_disk.specs.declared.Disk.{Ghosts}
use Rattle.sqlite_wal.specs.Recovery.{Image}
use Rattle.sqlite_wal.specs.Files.{outcomes}
use Rattle.sqlite_wal.proofs.LogLemmas.{SeenMayStay}
use Rattle.sqlite_pool.proofs.StateLemmas.{clean_is, may_leave_is}
use Rattle.sqlite_trees.specs.Tree.{Trees}
use Rattle.sqlite_trees.specs.View.{IsClean}
use Rattle.sqlite_trees.proofs.Doubt.{clean_of}
use Rattle.sqlite_store.specs.declared.store.FileStore.{FileStore}
use Rattle.sqlite_store.specs.FileStore.{view, recovers, files}
use Rattle.sqlite_store.specs.Laws.{settled_at}
use Rattle.sqlite.specs.Held.{Held, AreDatabases}
use Rattle.sqlite.specs.State.{IsLive}
use Rattle.sqlite.specs.Files.{file_state, HoldsDatabase}
use Rattle.sqlite.proofs.Theorems.{opens_again}
use Rattle.oe_keeper.specs.Kept.{Kept}
use Rattle.oe_sqlite.specs.Model.{AreRows, TellsIn}
use Rattle.oe_sqlite.specs.Shape.{kept_schema}
use Rattle.oe_sqlite.proofs.Crash.{crash_rows}
use Rattle.oe_sqlite.specs.FileRows.{HoldsRows}

-- each image that the disk may leave holds a database that the store allows
pub left_database : {D : Type 0} {g : Ghosts D} (it : FileStore D g) → IsClean (view it) → IsTrue (view it).is_numbered → AreDatabases (recovers it)
    → (image : Image) → outcomes g (files it).0 (files it).1 image → ∥ ((db : Trees) × recovers it db × HoldsDatabase image db) ∥₁
left_database it clean numbered sound image may =
    opens_again it numbered sound image (may_leave_is it.pool image (subst IsTrue (clean_is it.pool) (clean_of (view it).is_clean clean)) may)

-- outside a transaction it is the last commit
pub crash_files : {D : Type 0} {g : Ghosts D} (c : Held (FileStore D g)) (it : FileStore D g) (rows : Kept) → SeenMayStay g → TellsIn (file_state c) rows → IsLive (file_state c)
    → (IsTrue (file_state c).is_open → (file_state c).now ≡ (file_state c).committed) → ((db : Trees) → recovers it db → recovers c.store db)
    → IsClean (view it) → IsTrue (view it).is_numbered → (image : Image) → outcomes g (files it).0 (files it).1 image → HoldsRows image rows
crash_files c it rows stays tells live settled some clean numbered image may =
    let last = λ (db : Trees). crash_rows (file_state c) rows db live settled tells in
    let same = λ (db : Trees) (found : recovers it db). settled_at c.store stays db tells.1 (some db found) in
    let left = left_database it clean numbered (λ db found. (kept_schema, (last db (same db found)).sound)) image may in
    ((file_state c).committed.trees, ∥∥₁_map left (λ one. subst (HoldsDatabase image) (same one.0 one.1) one.2), last _ refl)
