-- The status of a case on a day: 77.33 and 77.37.
use Rattle.std.specs.Prelude.{Bool, false, Option, Some, None, ℤ, int_lt, if◌then◌else◌}
use Rattle.jiff_core.specs.declared.civil.date.Date.{Date}
use Rattle.jiff_core.specs.Date.{epoch_day}
use Rattle.determination_dates.specs.declared.determination.Decision.{Decision}
use Rattle.determination_dates.specs.declared.determination.Decision.TheVariants.{NoHazard, Hazard}
use Rattle.determination_dates.specs.declared.determination.Record.{Record}
use Rattle.determination_dates.specs.declared.life.End.{End}
use Rattle.determination_dates.specs.declared.life.End.TheVariants.{Abandoned as GivenUp, Reversed as Undone}
use Rattle.determination_dates.specs.declared.life.Life.{Life}
use Rattle.determination_dates.specs.declared.life.Status.{Status}
use Rattle.determination_dates.specs.declared.life.Status.TheVariants.{Awaiting, Pending, InForce, HazardStands, Expired, Abandoned, Reversed}
use Rattle.determination_dates.specs.Effects.{effective_date, expiry_day}

-- the day is after the expiry: a determination is valid through its expiry day
abbrev pub is_past : Option ℤ → ℤ → Bool
is_past None day = false
is_past (Some x) day = int_lt x day

-- the status from the effective day on
abbrev pub in_effect : Decision → Option ℤ → ℤ → Status
in_effect Hazard x day = HazardStands
in_effect NoHazard x day = if is_past x day then Expired else InForce

-- pending where there is no effective day or the day is before it
abbrev pub by_effective : Option Date → Record → ℤ → Status
by_effective None r day = Pending
by_effective (Some e) r day = if int_lt day (epoch_day e) then Pending else in_effect r.decision (expiry_day r) day

-- awaiting where no determination was made
abbrev pub by_record : Option Record → ℤ → Status
by_record None day = Awaiting
by_record (Some r) day = by_effective (effective_date r) r day

-- a case that ended keeps that status, whatever its determination
abbrev pub by_end : Option End → Status → Status
by_end (Some GivenUp) s = Abandoned
by_end (Some Undone) s = Reversed
by_end None s = s

-- the first status that holds: abandoned, reversed, awaiting, pending, hazard, expired, in force
abbrev pub status_of : Life → ℤ → Status
status_of l day = by_end l.end (by_record l.determination day)
