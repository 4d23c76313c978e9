-- The known rows of a place.
use Rattle.std.specs.Prelude.{◌≡◌, Bool, false, IsTrue, Option, Some, None}
use Rattle.sqlite_trees.specs.Tree.{Trees}
use Rattle.std.proofs.Common.{sym, ◌∙◌}
use Rattle.sqlite_disk.specs.declared.Disk.{Ghosts}
use Rattle.sqlite.specs.Held.{state}
use Rattle.sqlite_wal.specs.Recovery.{Image}
use Rattle.sqlite.specs.Start.{FindsIn}
use Rattle.sqlite.specs.Files.{file_state, IsOpened}
use Rattle.sqlite.specs.State.{HasCleanDisk}
use Rattle.sqlite.specs.Steps.{over_memory}
use Rattle.oe_keeper.specs.Kept.{Kept}
use Rattle.oe_sqlite.specs.FileRows.{GiveRows}
use Rattle.oe_sqlite.specs.Model.{IsHeld, TellsIn}
use Rattle.oe_sqlite.specs.Shape.{kept_schema, no_schema}
use Rattle.oe_sqlite.specs.declared.place.Place.{Place}
use Rattle.oe_sqlite.specs.declared.place.Place.TheVariants.{Nowhere, Memory, File}

-- it is a store in memory
abbrev pub IsInMemory : {D : Type 0} {g : Ghosts D} → Place D g → Type 0
IsInMemory Nowhere = ⊥
IsInMemory (Memory conn) = Unit {0}
IsInMemory (File conn) = ⊥

-- it is a store in a file
abbrev pub IsInFile : {D : Type 0} {g : Ghosts D} → Place D g → Type 0
IsInFile Nowhere = ⊥
IsInFile (Memory conn) = ⊥
IsInFile (File conn) = Unit {0}

-- it is a store, in memory or in a file
abbrev pub IsStore : {D : Type 0} {g : Ghosts D} → Place D g → Type 0
IsStore Nowhere = ⊥
IsStore (Memory conn) = Unit {0}
IsStore (File conn) = Unit {0}

-- with no path it is a store in memory, and with one a file
abbrev pub IsPlacedBy : {P D : Type 0} {g : Ghosts D} → Option P → Place D g → Type 0
IsPlacedBy None place = IsInMemory place
IsPlacedBy (Some path) place = IsInFile place

-- a store in memory stays one, and so does a file
abbrev pub StaysAt : {D : Type 0} {g : Ghosts D} → Place D g → Place D g → Type 0
StaysAt Nowhere after = Unit {0}
StaysAt (Memory conn) after = IsInMemory after
StaysAt (File conn) after = IsInFile after

-- it has some known rows whenever its store is clean and open, and no transaction is open
abbrev pub IsHeldAt : {D : Type 0} {g : Ghosts D} → Place D g → Type 0
IsHeldAt Nowhere = Unit {0}
IsHeldAt (Memory conn) = IsHeld (state over_memory conn) × (conn.in_transaction ≡ false)
IsHeldAt (File conn) = IsHeld (file_state conn) × (conn.in_transaction ≡ false)

-- its store, which is clean and open, holds the one table with these rows
abbrev pub TellsAt : {D : Type 0} {g : Ghosts D} → Place D g → Kept → Type 0
TellsAt Nowhere rows = ⊥
TellsAt (Memory conn) rows = TellsIn (state over_memory conn) rows
TellsAt (File conn) rows = TellsIn (file_state conn) rows

-- the same, where a load has found the store to be the one table
abbrev pub TellsWith : {D : Type 0} {g : Ghosts D} → Bool → Place D g → Kept → Type 0
TellsWith is_told place rows = IsTrue is_told × TellsAt place rows

-- its store has no table, index or view
abbrev pub IsBlankAt : {D : Type 0} {g : Ghosts D} → Place D g → Type 0
IsBlankAt Nowhere = ⊥
IsBlankAt (Memory conn) = (state over_memory conn).now.schema ≡ no_schema
IsBlankAt (File conn) = (file_state conn).now.schema ≡ no_schema

-- its store has the one table, as this keeper makes it, and nothing else
abbrev pub IsShapedAt : {D : Type 0} {g : Ghosts D} → Place D g → Type 0
IsShapedAt Nowhere = ⊥
IsShapedAt (Memory conn) = (state over_memory conn).now.schema ≡ kept_schema
IsShapedAt (File conn) = (file_state conn).now.schema ≡ kept_schema

-- its store is open, and what was read from its disk is what was written there
abbrev pub IsCleanAt : {D : Type 0} {g : Ghosts D} → Place D g → Type 0
IsCleanAt Nowhere = ⊥
IsCleanAt (Memory conn) = HasCleanDisk (state over_memory conn) × IsTrue (state over_memory conn).is_open
IsCleanAt (File conn) = HasCleanDisk (file_state conn) × IsTrue (file_state conn).is_open

-- its store was just opened over files with these contents
abbrev pub IsFoundAt : {D : Type 0} {g : Ghosts D} → Image → Place D g → Type 0
IsFoundAt image Nowhere = ⊥
IsFoundAt image (Memory conn) = ⊥
IsFoundAt image (File conn) = HasCleanDisk (file_state conn) → IsOpened conn × FindsIn image (file_state conn)

-- after a load of such files, its known rows, while it is clean and open, and the loaded rows are those that the files give
abbrev pub LoadsAt : {D : Type 0} {g : Ghosts D} → Image → Place D g → Bool → Kept → Type 0
LoadsAt image place is_told loaded = (rows : Kept) → GiveRows image rows → IsCleanAt place → TellsWith is_told place rows × (loaded ≡ rows)

-- opening the file after a crash at this moment may find these trees
abbrev pub MayLeaveAt : {D : Type 0} {g : Ghosts D} → Place D g → Trees → Type 0
MayLeaveAt Nowhere db = ⊥
MayLeaveAt (Memory conn) db = ⊥
MayLeaveAt (File conn) db = HasCleanDisk (file_state conn) × (file_state conn).may_leave db

pub told_once : {D : Type 0} {g : Ghosts D} (place : Place D g) (a b : Kept) → TellsAt place a → TellsAt place b → a ≡ b
told_once Nowhere a b p q = absurd p
told_once (Memory conn) a b p q = sym p.2.are ∙ q.2.are
told_once (File conn) a b p q = sym p.2.are ∙ q.2.are
