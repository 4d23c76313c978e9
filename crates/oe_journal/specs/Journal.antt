-- The journal keeper.
use Rattle.std.specs.Prelude.{◌≡◌, ◌≤◌, ℕ, ◌^◌, Bool, true, false, List, Option}
use Rattle.crash_disks.specs.Crash.{Passes}
use Rattle.oe_keeper.specs.Kept.{Kept}
use Rattle.oe_keeper.specs.declared.change.RowChange.{RowChange}
use Rattle.oe_journal.specs.Frames.{extent, rows_of}
use Rattle.oe_journal.specs.declared.journal.JournalKeeper.{JournalKeeper}
use Rattle.oe_journal.specs.Standing.{acknowledged, closed_at, MayStand, MayStandWith, IsReady}

-- it tells that these are its rows: no call failed since it was loaded
pub record IsTelling {D : Type 0} (IsTold : Type 0) (content : D → List ℕ) (k : JournalKeeper D) (rows : Kept) : Type 0 where
  pub disk_tells : IsTold
  pub is_open : k.is_open ≡ true
  pub is_told : k.is_told ≡ true
  pub rows_are : rows ≡ rows_of (content k.disk)

-- it tells no rows
abbrev pub TellsNothing : {D : Type 0} → Type 0 → (D → List ℕ) → JournalKeeper D → Type 0
TellsNothing IsTold content k = (rows : Kept) → IsTelling IsTold content k rows → ⊥

-- the rows of the frames before its gate
abbrev pub acknowledged_by : {D : Type 0} → (D → List ℕ) → JournalKeeper D → Kept
acknowledged_by content k = acknowledged k.end (content k.disk)

-- these rows stand in it, or may come to stand
abbrev pub MayStandIn : {D : Type 0} → (D → List ℕ → Type 0) → JournalKeeper D → Kept → Type 0
MayStandIn MayLeave k rows = MayStand k.to_settle k.end (MayLeave k.disk) rows

-- those, or the acknowledged rows with these changes
abbrev pub MayStandAfter : {D : Type 0} → (D → List ℕ) → (D → List ℕ → Type 0) → JournalKeeper D → List RowChange → Kept → Type 0
MayStandAfter content MayLeave k changes rows = MayStandWith k.to_settle k.end (MayLeave k.disk) (content k.disk) changes rows

-- no rows may come to stand in it but the acknowledged ones, as after a load
pub record IsFresh {D : Type 0} (content : D → List ℕ) (MayLeave : D → List ℕ → Type 0) (k : JournalKeeper D) : Type 0 where
  pub stands : (rows : Kept) → MayStandIn MayLeave k rows → rows ≡ acknowledged_by content k

-- its gate is where the file says, on every file that a crash now may leave
pub record IsLoadedOver {D : Type 0} (IsTold : Type 0) (content : D → List ℕ) (MayLeave : D → List ℕ → Type 0) (k : JournalKeeper D) : Type 0 where
  pub is_open : k.is_open ≡ true
  pub bound : k.end ≤ 2 ^ 62
  pub settled : k.is_told ≡ true → k.to_settle ≡ false
  pub ready : IsTold → IsReady (content k.disk) (MayLeave k.disk) k.end k.to_settle

-- the file is the frames of this one that counted, and a closed gate at its end
pub record IsCutTo {D : Type 0} (content : D → List ℕ) (file : List ℕ) (k : JournalKeeper D) : Type 0 where
  pub end_is : k.end ≡ extent file
  pub is : content k.disk ≡ closed_at k.end file

-- the rows are those that the file stood for, and no other may come to stand
pub record IsReloaded {D : Type 0} (content : D → List ℕ) (MayLeave : D → List ℕ → Type 0) (old new : JournalKeeper D) : Type 0 where
  pub ready : IsReady (content new.disk) (MayLeave new.disk) new.end new.to_settle
  pub file : IsCutTo content (content old.disk) new
  pub rows : rows_of (content new.disk) ≡ rows_of (content old.disk)
  pub acknowledges : acknowledged new.end (content new.disk) ≡ rows_of (content old.disk)
  pub stands : (rows : Kept) → MayStand new.to_settle new.end (MayLeave new.disk) rows → rows ≡ rows_of (content old.disk)

-- From this disk on, with this gate, a crash at a moment of the load leaves rows that might have stood before it, and so does one afterwards.
pub record LoadsFrom {D : Type 0} (TellsPast : Type 0) (MayLeave : D → List ℕ → Type 0) (moment : D → ℕ) (LeftSince : D → ℕ → List ℕ → Type 0) (from : D) (to_settle : Bool) (end : ℕ) (new : JournalKeeper D) : Type 0 where
  pub stands : (rows : Kept) → MayStand new.to_settle new.end (MayLeave new.disk) rows → MayStand to_settle end (MayLeave from) rows
  pub time : TellsPast → Passes (moment from) (moment new.disk) (LeftSince from) (LeftSince new.disk) (λ c. MayStand to_settle end (MayLeave from) (rows_of c))

-- A load of an open journal finds the rows of its file. One that opens it finds those of the file at the place.
pub record FindsOver {D : Type 0} (Opens : D → Option (List ℕ) → D → Type 0) (content : D → List ℕ) (k : JournalKeeper D) (place : Option (List ℕ)) (rows : Kept) : Type 0 where
  pub again : k.is_open ≡ true → rows ≡ rows_of (content k.disk)
  pub first : k.is_open ≡ false → (opened : D) × Opens k.disk place opened × (rows ≡ rows_of (content opened))

-- A load of an open journal cuts its file so. One that opens it cuts the file at the place.
pub record CutsOver {D : Type 0} (Opens : D → Option (List ℕ) → D → Type 0) (content : D → List ℕ) (old : JournalKeeper D) (place : Option (List ℕ)) (new : JournalKeeper D) : Type 0 where
  pub again : old.is_open ≡ true → IsCutTo content (content old.disk) new
  pub first : old.is_open ≡ false → (opened : D) × Opens old.disk place opened × IsCutTo content (content opened) new

-- the place was opened, and nothing is told yet
pub record IsOpened {D : Type 0} (Opens : D → Option (List ℕ) → D → Type 0) (old : JournalKeeper D) (place : Option (List ℕ)) (new : JournalKeeper D) : Type 0 where
  pub opens : Opens old.disk place new.disk
  pub is_told : new.is_told ≡ false
  pub to_settle : new.to_settle ≡ false
  pub end : new.end ≡ old.end
