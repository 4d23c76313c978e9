-- Which calls of a disk in memory fail.
use Rattle.std.specs.Prelude.{ℕ, List, Bool, false, Option, Some, None, nat_eq, nat_le, if◌then◌else◌}
use Rattle.std.specs.List.{list_any}
use Rattle.crash_disks.specs.declared.calls.Turn.{Turn}
use Rattle.crash_disks.specs.declared.calls.Turn.TheVariants.{Works, Fails, Stopped}

-- the call has this number or a later one
abbrev pub is_from : Option ℕ → ℕ → Bool
is_from None call = false
is_from (Some first) call = nat_le first call

-- what the call of this number is to do
abbrev pub turn_at : List ℕ → Option ℕ → ℕ → Turn
turn_at listed stop call = if is_from stop call then Stopped else if list_any (λ n. nat_eq n call) listed then Fails else Works
