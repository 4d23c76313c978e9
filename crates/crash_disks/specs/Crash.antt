-- What a crash may leave, and when a call may fail.
use Rattle.std.specs.Prelude.{◌≡◌, ◌⊎◌, ℕ, ◌+◌, ◌-◌, ◌^◌, ◌≤◌, min, List, Result, OnErr}

-- a crash leaves this and nothing else
abbrev pub Only : List ℕ → (List ℕ → Type 0) → Type 0
Only file outcomes = (c : List ℕ) → outcomes c → c ≡ file

-- a crash leaves nothing that it might not have left before
abbrev pub Stays : (List ℕ → Type 0) → (List ℕ → Type 0) → Type 0
Stays old new = (c : List ℕ) → new c → old c

-- an outcome after a step
abbrev pub After : (List ℕ → List ℕ → Type 0) → (List ℕ → Type 0) → List ℕ → Type 0
After step old c = (d : List ℕ) × old d × step d c

-- each new outcome of a crash is an old outcome after a step
abbrev pub Follows : (List ℕ → List ℕ → Type 0) → (List ℕ → Type 0) → (List ℕ → Type 0) → Type 0
Follows step old new = (c : List ℕ) → new c → After step old c

-- time goes on: a crash since t might have left what it might have left before, or what it may leave now
pub record Elapses (before now : ℕ) (past since : ℕ → List ℕ → Type 0) (may_leave : List ℕ → Type 0) : Type 0 where
  pub later : before ≤ now
  pub nothing_else : (t : ℕ) (c : List ℕ) → t ≤ before → since t c → past t c ⊎ may_leave c
  pub keeps : (t : ℕ) (c : List ℕ) → t ≤ before → past t c → since t c

-- a crash at a moment of one or more calls leaves what has P, or what it might have left before them
pub record Passes (before now : ℕ) (past since : ℕ → List ℕ → Type 0) (P : List ℕ → Type 0) : Type 0 where
  pub later : before ≤ now
  pub each : (t : ℕ) (c : List ℕ) → t ≤ before → since t c → past t c ⊎ P c
  pub keeps : (t : ℕ) (c : List ℕ) → t ≤ before → past t c → since t c

module _ {D : Type 0} (moment : D → ℕ) (LeftSince : D → ℕ → List ℕ → Type 0) where
  -- the time of a call, which leads from the one disk to the other
  abbrev pub GoesOn : (D → List ℕ → Type 0) → D → D → Type 0
  GoesOn MayLeave old new = Elapses (moment old) (moment new) (LeftSince old) (LeftSince new) (MayLeave new)

  -- a crash between these two disks leaves what has P
  abbrev pub LeavesDuring : D → D → (List ℕ → Type 0) → Type 0
  LeavesDuring old new P = Passes (moment old) (moment new) (LeftSince old) (LeftSince new) P

-- a count that has risen, or stands at the end of its type
abbrev pub Rose : ℕ → ℕ → Type 0
Rose before now = min (before + 1) (2 ^ 64 - 1) ≤ now

-- a count never falls, and an `Err` comes only where it rose
pub record HasCause {T E : Type 0} (before now : ℕ) (result : Result T E) : Type 0 where
  pub later : before ≤ now
  pub failed : OnErr result (Rose before now)
