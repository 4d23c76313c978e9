-- How a keeper's calls change its rows, and when they fail.
use Rattle.std.specs.Prelude.{◌≡◌, ℕ, ◌+◌, ◌-◌, ◌^◌, ◌≤◌, min, List, Result, Ok, Err}
use Rattle.oe_keeper.specs.Kept.{Kept, rows_after_changes}
use Rattle.oe_keeper.specs.declared.change.RowChange.{RowChange}
use Rattle.oe_keeper.specs.declared.keeper.KeepErr.{KeepErr}
use Rattle.oe_keeper.specs.declared.keeper.KeepErr.TheVariants.{Failed, NoMemory}

module _ {K : Type 0} (Tells : K → Kept → Type 0) (old new : K) where
  -- rows that are known before and after are the same
  abbrev pub Stays : Type 0
  Stays = (before now : Kept) → Tells old before → Tells new now → now ≡ before

  -- if the rows are known now, they were known before
  abbrev pub StaysSilent : Type 0
  StaysSilent = (now : Kept) → Tells new now → ∥ ((before : Kept) × Tells old before) ∥₁

  -- the rows have all the changes, in order
  abbrev pub HasAll : List RowChange → Type 0
  HasAll changes = (before now : Kept) → Tells old before → Tells new now → now ≡ rows_after_changes before changes

-- a count that has risen, or stands at the end of its type
abbrev pub Rose : ℕ → ℕ → Type 0
Rose before now = min (before + 1) (2 ^ 64 - 1) ≤ now

-- a condition on a call that returned Failed
abbrev pub IfFailed : {T : Type 0} → Result T KeepErr → Type 0 → Type 0
IfFailed (Ok x) P = Unit {0}
IfFailed (Err Failed) P = P
IfFailed (Err NoMemory) P = Unit {0}

-- the count of faults never falls, and Failed comes only where it rose
pub record HasCause {T : Type 0} (before now : ℕ) (result : Result T KeepErr) : Type 0 where
  pub later : before ≤ now
  pub failed : IfFailed result (Rose before now)
