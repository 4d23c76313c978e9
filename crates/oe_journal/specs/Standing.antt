-- What rows stand in a journal, and what rows a crash may leave.
use Rattle.std.specs.Prelude.{◌≡◌, ◌≢◌, ◌⊎◌, ℕ, ◌+◌, ◌<◌, ◌^◌, Bool, true, false, List, [], ◌∷◌, ◌++◌, length, slice_index, take, drop}
use Rattle.crash_disks.specs.Bytes.{Holds}
use Rattle.oe_keeper.specs.Kept.{Kept, rows_after_changes}
use Rattle.oe_keeper.specs.declared.change.RowChange.{RowChange}
use Rattle.oe_journal.specs.Spelling.{spelled, block, AreChanges}
use Rattle.oe_journal.specs.Frames.{extent, rows_of}

-- the file with this byte at this place
abbrev pub gated : ℕ → ℕ → List ℕ → List ℕ
gated end gate file = take end file ++ gate ∷ drop (end + 1) file

-- the frames before the gate at this place, and then a closed gate
abbrev pub closed_at : ℕ → List ℕ → List ℕ
closed_at end file = take end file ++ 0 ∷ []

-- the rows of the frames before the closed gate
abbrev pub acknowledged : ℕ → List ℕ → Kept
acknowledged end file = rows_of (closed_at end file)

-- The rows that stand, or may come to stand: those of a file that a crash now may leave. Where a gate is to be settled, also those of such a
-- file with another byte at that gate.
abbrev pub MayStand : Bool → ℕ → (List ℕ → Type 0) → Kept → Type 0
MayStand to_settle end may_leave rows = (c : List ℕ) × may_leave c × ((rows ≡ rows_of c) ⊎ ((to_settle ≡ true) × ((gate : ℕ) × (rows ≡ rows_of (gated end gate c)))))

-- those, or the acknowledged rows with one list more
abbrev pub MayStandWith : Bool → ℕ → (List ℕ → Type 0) → List ℕ → List RowChange → Kept → Type 0
MayStandWith to_settle end may_leave file changes rows = MayStand to_settle end may_leave rows ⊎ (rows ≡ rows_after_changes (acknowledged end file) changes)

-- What every file that a crash now may leave has in common: the frames before the gate at this place. The gate is closed, or it is to be settled
-- and the bytes behind it are on the disk.
pub record IsReady (file : List ℕ) (may_leave : List ℕ → Type 0) (end : ℕ) (to_settle : Bool) : Type 0 where
  pub frames : extent (closed_at end file) ≡ end
  pub long : (c : List ℕ) → may_leave c → end < length c
  pub same : (c : List ℕ) → may_leave c → take end c ≡ take end file
  pub closed : to_settle ≡ false → (c : List ℕ) → may_leave c → slice_index c end ≢ 1
  pub behind : to_settle ≡ true → (c : List ℕ) → may_leave c → drop (end + 1) c ≡ drop (end + 1) file

-- what stands behind the gate of the frame that holds these changes
pub record IsBlock (bytes : List ℕ) (changes : List RowChange) : Type 0 where
  pub is : bytes ≡ block (spelled changes)
  pub bound : length (spelled changes) < 2 ^ 64
  pub fits : AreChanges changes

-- the frame that holds these changes, with its gate open
pub record IsFrame (bytes : List ℕ) (changes : List RowChange) : Type 0 where
  pub is : bytes ≡ 1 ∷ block (spelled changes)
  pub bound : length (spelled changes) < 2 ^ 64
  pub fits : AreChanges changes

-- the frames before the gate are as they were, and no other rows may come to stand
pub record StaysReady (end : ℕ) (before : Bool) (old : List ℕ) (old_leave : List ℕ → Type 0) (after : Bool) (new : List ℕ) (new_leave : List ℕ → Type 0) : Type 0 where
  pub ready : IsReady new new_leave end after
  pub same : take end new ≡ take end old
  pub stands : (rows : Kept) → MayStand after end new_leave rows → MayStand before end old_leave rows

-- the same, but for the rows with these changes
pub record IsUnappended (end : ℕ) (changes : List RowChange) (before : Bool) (old : List ℕ) (old_leave : List ℕ → Type 0) (after : Bool) (new : List ℕ) (new_leave : List ℕ → Type 0) : Type 0 where
  pub ready : IsReady new new_leave end after
  pub same : take end new ≡ take end old
  pub stands : (rows : Kept) → MayStand after end new_leave rows → MayStandWith before end old_leave old changes rows

-- The frame of these changes, and the closed gate behind it, stand at the old end. The new end is that gate; what lay further on is as it was.
pub record IsWritten (end : ℕ) (changes : List RowChange) (old : List ℕ) (new_end : ℕ) (new : List ℕ) : Type 0 where
  pub holds : Holds old end (1 ∷ block (spelled changes)) new
  pub end_is : new_end ≡ end + (9 + length (spelled changes))

-- the rows with these changes stand, and no other
pub record IsAppended (end : ℕ) (changes : List RowChange) (old : List ℕ) (new_end : ℕ) (new : List ℕ) (new_leave : List ℕ → Type 0) : Type 0 where
  pub ready : IsReady new new_leave new_end false
  pub file : IsWritten end changes old new_end new
  pub rows : rows_of new ≡ rows_after_changes (acknowledged end old) changes
  pub same : acknowledged new_end new ≡ rows_after_changes (acknowledged end old) changes
  pub stands : (rows : Kept) → MayStand false new_end new_leave rows → rows ≡ rows_after_changes (acknowledged end old) changes

-- the block stands behind the closed gate, all of it on the disk
pub record IsStagedAt (end : ℕ) (bytes old new : List ℕ) (new_leave : List ℕ → Type 0) : Type 0 where
  pub front : take end new ≡ take end old
  pub gate : slice_index new end ≡ slice_index old end
  pub long : end < length new
  pub behind : drop (end + 1) new ≡ bytes ++ drop (end + 1 + length bytes) old
  pub durable : (c : List ℕ) → new_leave c → c ≡ new

-- the file is the frames that counted and a closed gate, all of it on the disk
pub record IsMended (end : ℕ) (old new : List ℕ) (new_leave : List ℕ → Type 0) : Type 0 where
  pub is : new ≡ closed_at end old
  pub rows : rows_of new ≡ rows_of old
  pub ready : IsReady new new_leave end false
  pub acknowledges : acknowledged end new ≡ rows_of old
  pub durable : (c : List ℕ) → new_leave c → c ≡ new
