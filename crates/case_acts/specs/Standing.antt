-- The statuses in which each act on a case is allowed.
use Rattle.std.specs.Prelude.{Bool, true, false}
use Rattle.determination_dates.specs.declared.life.Status.{Status}
use Rattle.determination_dates.specs.declared.life.Status.TheVariants.{Awaiting, Pending, InForce, HazardStands, Expired, Abandoned, Reversed}

-- no determination was made yet: one may be issued, 77.31
abbrev pub is_awaiting : Status → Bool
is_awaiting Awaiting = true
is_awaiting Pending = false
is_awaiting InForce = false
is_awaiting HazardStands = false
is_awaiting Expired = false
is_awaiting Abandoned = false
is_awaiting Reversed = false

-- a determination stands: it may be petitioned, 77.37
abbrev pub is_standing : Status → Bool
is_standing Awaiting = false
is_standing Pending = true
is_standing InForce = true
is_standing HazardStands = true
is_standing Expired = false
is_standing Abandoned = false
is_standing Reversed = false

-- a determination of no hazard is in force: it may be extended or revised, 77.35
abbrev pub is_in_force : Status → Bool
is_in_force Awaiting = false
is_in_force Pending = false
is_in_force InForce = true
is_in_force HazardStands = false
is_in_force Expired = false
is_in_force Abandoned = false
is_in_force Reversed = false

-- the structure may be built, now or later: it may be abandoned, 77.33(b)
abbrev pub is_planned : Status → Bool
is_planned Awaiting = true
is_planned Pending = true
is_planned InForce = true
is_planned HazardStands = false
is_planned Expired = false
is_planned Abandoned = false
is_planned Reversed = false
