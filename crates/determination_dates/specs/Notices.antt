-- Whether a notice was in time: 77.7(b), (c) and (e).
use Rattle.std.specs.Prelude.{◌≡◌, ℕ, zero, suc, Bool, true, false, Option, Some, None, ℤ, pos, negsuc, ◌+ℤ◌, ◌-ℤ◌, int_lt, if◌then◌else◌}
use Rattle.jiff_core.specs.declared.civil.date.Date.{Date}
use Rattle.jiff_core.specs.Date.{epoch_day}
use Rattle.determination_dates.specs.declared.timely.Timeliness.{Timeliness}
use Rattle.determination_dates.specs.declared.timely.Timeliness.TheVariants.{Timely, Late, Emergency}
use Rattle.determination_dates.specs.declared.notice.TheConstants.{NOTICE_DAYS, FORM_DAYS}
use Rattle.determination_dates.specs.Days.{IsLimited}

-- a number of days where it is above 0, else 0
abbrev pub days_over : ℤ → ℕ
days_over (pos n) = n
days_over (negsuc n) = 0

-- the day number of the earlier of the start of the work and the application for a permit
abbrev pub earlier_of : ℤ → Option Date → ℤ
earlier_of start None = start
earlier_of start (Some permit) = if int_lt (epoch_day permit) start then epoch_day permit else start

-- the number of days by which a notice is late: 0 where it came at least 45 days before the earlier of the two
abbrev pub days_late : Date → Date → Option Date → ℕ
days_late received start permit = days_over (epoch_day received +ℤ NOTICE_DAYS -ℤ earlier_of (epoch_day start) permit)

-- timely, or late by a number of days
abbrev pub by_days : ℕ → Timeliness
by_days zero = Timely
by_days (suc n) = Late (suc n)

-- the timeliness of a notice; in an emergency the form is due 5 days after the notice
pub record IsTimeliness (received start : Date) (permit : Option Date) (emergency : Bool) (t : Timeliness) : Type 0 where
  pub planned : emergency ≡ false → t ≡ by_days (days_late received start permit)
  pub urgent : emergency ≡ true → (due : Date) × (t ≡ Emergency due) × (epoch_day due ≡ epoch_day received +ℤ FORM_DAYS)

-- the day on which the form of an emergency is due is within the limit
abbrev pub HasLimitedDue : Timeliness → Type 0
HasLimitedDue Timely = Unit {0}
HasLimitedDue (Late days) = Unit {0}
HasLimitedDue (Emergency due) = IsLimited due
