-- A disk in memory.
use Rattle.std.specs.Prelude.{◌≡◌, ℕ, ◌+◌, ◌-◌, ◌^◌, min, Bool, true, List, [], Option, None}
use Rattle.crash_disks.specs.declared.calls.Turn.{Turn}
use Rattle.crash_disks.specs.declared.calls.Turn.TheVariants.{Works, Stopped}
use Rattle.crash_disks.specs.Replay.{Leaves}
use Rattle.crash_disks.specs.Turns.{turn_at}
use Rattle.crash_disks.specs.declared.memory.MemoryDisk.{MemoryDisk}

-- what a read gives
abbrev pub memory_bytes : MemoryDisk → List ℕ
memory_bytes d = d.bytes.items

-- empty and not called yet, with these calls listed
pub record IsFresh (d : MemoryDisk) (listed : List ℕ) (first_stopped : Option ℕ) : Type 0 where
  pub first : d.first.items ≡ []
  pub steps : d.steps.items ≡ []
  pub bytes : d.bytes.items ≡ []
  pub fail : d.fail ≡ listed
  pub stop : d.stop ≡ first_stopped
  pub calls : d.calls ≡ 0
  pub faults : d.faults ≡ 0

-- a crash now may leave these bytes
abbrev pub may_leave : MemoryDisk → List ℕ → Type 0
may_leave d c = Leaves d.first.items d.steps.items c

-- the bytes are the same, and so is what a crash may leave of them
pub record HasSameBytes (old new : MemoryDisk) : Type 0 where
  pub first : new.first.items ≡ old.first.items
  pub steps : new.steps.items ≡ old.steps.items
  pub bytes : new.bytes.items ≡ old.bytes.items

-- what its next call is to do; the count stands at the end of its type
abbrev pub next_call : MemoryDisk → ℕ
next_call d = min (d.calls + 1) (2 ^ 64 - 1)

abbrev pub turn_of : MemoryDisk → Turn
turn_of d = turn_at d.fail d.stop (next_call d)

-- one call more was counted; it answered Ok only where it was to work, and did nothing where it was stopped
pub record IsCounted (old : MemoryDisk) (ok : Bool) (new : MemoryDisk) : Type 0 where
  pub calls : new.calls ≡ next_call old
  pub fail : new.fail ≡ old.fail
  pub stop : new.stop ≡ old.stop
  pub works : ok ≡ true → turn_of old ≡ Works
  pub stopped : turn_of old ≡ Stopped → HasSameBytes old new

-- all its bytes are on the disk, no call of it is to fail, and it was not called yet
pub record IsWhole (d : MemoryDisk) : Type 0 where
  pub steps : d.steps.items ≡ []
  pub first : d.first.items ≡ d.bytes.items
  pub fail : d.fail ≡ []
  pub stop : d.stop ≡ None
  pub calls : d.calls ≡ 0
  pub faults : d.faults ≡ 0
