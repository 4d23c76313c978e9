-- The dates that follow from the record of a determination: 77.33 and 77.35(a)(2).
use Rattle.std.specs.Prelude.{Option, Some, None, IfSome, ℤ, pos, ◌-ℤ◌, int_lt, if◌then◌else◌}
use Rattle.std.specs.Option.{option_map}
use Rattle.jiff_core.specs.declared.civil.date.Date.{Date}
use Rattle.jiff_core.specs.Date.{epoch_day}
use Rattle.jiff_span.specs.Months.{add_months}
use Rattle.determination_dates.specs.declared.determination.Decision.{Decision}
use Rattle.determination_dates.specs.declared.determination.Decision.TheVariants.{NoHazard, Hazard}
use Rattle.determination_dates.specs.declared.determination.Record.{Record}
use Rattle.determination_dates.specs.declared.effects.TheConstants.{PERIOD_MONTHS, EXTENSION_DAYS}
use Rattle.determination_dates.specs.Days.{IsDay, IsLimited}

-- the later of two dates
abbrev pub later_of : Date → Date → Date
later_of a b = if int_lt (epoch_day a) (epoch_day b) then b else a

-- the effective day while nothing is pending: the ordinary day, or after an affirmation the later of the two
abbrev pub settlement_date : Option Date → Date → Date
settlement_date None ordinary = ordinary
settlement_date (Some affirmed) ordinary = later_of affirmed ordinary

-- the effective day, none while a petition is pending: 77.33(a)
abbrev pub effective_date : Record → Option Date
effective_date r = if r.pending then None else Some (settlement_date r.affirmed r.ordinary)

-- the day number of the expiry, from the decision, the day that was set and the effective day
abbrev pub expiry_by : Decision → Option Date → Option Date → Option ℤ
expiry_by Hazard set effective = None
expiry_by NoHazard (Some day) effective = Some (epoch_day day)
expiry_by NoHazard None effective = option_map (λ d. add_months d (pos PERIOD_MONTHS)) effective

-- the expiry: none for a hazard; else the day that was set, else 18 months after the effective day: 77.33(b) and (c)
abbrev pub expiry_day : Record → Option ℤ
expiry_day r = expiry_by r.decision r.set_expiry (effective_date r)

-- the last day for a petition for an extension, 15 days before the expiry: 77.35(a)(2)
abbrev pub last_day : Record → Option ℤ
last_day r = option_map (λ z. z -ℤ EXTENSION_DAYS) (expiry_day r)

-- each date stored in the record is within the limit
pub record IsKept (r : Record) : Type 0 where
  pub issued : IsLimited r.issued
  pub deadline : IfSome r.deadline IsLimited
  pub ordinary : IsLimited r.ordinary
  pub affirmed : IfSome r.affirmed IsLimited
  pub set_expiry : IfSome r.set_expiry IsLimited

-- the effective day and the expiry are within the limit
pub record IsInRange (r : Record) : Type 0 where
  pub effective : IfSome (effective_date r) IsLimited
  pub expiry : IfSome (expiry_day r) IsDay

-- both of these
pub record IsWithinRange (r : Record) : Type 0 where
  pub kept : IsKept r
  pub computed : IsInRange r
