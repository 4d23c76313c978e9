-- When a keeper in memory fails.
use Rattle.std.specs.Prelude.{◌≡◌, ℕ, ◌+◌, ◌-◌, ◌^◌, List, [], min, Bool, true, false, Result, Ok, Err, nat_eq}
use Rattle.std.specs.List.{list_any}
use Rattle.oe_keeper.specs.Kept.{Kept}
use Rattle.oe_keeper.specs.declared.keeper.KeepErr.{KeepErr}
use Rattle.oe_keeper.specs.declared.keeper.KeepErr.TheVariants.{Failed, NoMemory}
use Rattle.oe_keeper.specs.declared.memory.MemoryKeeper.{MemoryKeeper}

abbrev pub HasRows : MemoryKeeper → Kept → Type 0
HasRows k rows = rows ≡ k.tables

-- no call is listed
abbrev pub IsUnfailing : MemoryKeeper → Type 0
IsUnfailing k = k.fail ≡ []

-- a new keeper with these rows and these listed calls
pub record IsFresh (k : MemoryKeeper) (rows : Kept) (listed : List ℕ) : Type 0 where
  pub tables : HasRows k rows
  pub fail : k.fail ≡ listed
  pub calls : k.calls ≡ 0
  pub faults : k.faults ≡ 0

-- the number of the next call; the count stands at the end of its type
abbrev pub next_call : MemoryKeeper → ℕ
next_call k = min (k.calls + 1) (2 ^ 64 - 1)

-- whether the next call is listed
abbrev pub fails_next : MemoryKeeper → Bool
fails_next k = list_any (λ m. nat_eq m (next_call k)) k.fail

-- one more call was counted, and the list is unchanged
pub record IsCounted (old new : MemoryKeeper) : Type 0 where
  pub calls : new.calls ≡ next_call old
  pub fail : new.fail ≡ old.fail

-- whether a call returned Failed
abbrev pub has_failed : {T : Type 0} → Result T KeepErr → Bool
has_failed (Ok x) = false
has_failed (Err Failed) = true
has_failed (Err NoMemory) = false
