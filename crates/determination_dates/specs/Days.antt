-- The allowed dates. A date is given by its day number, where 1970-01-01 is 0.
use Rattle.std.specs.Prelude.{ℤ, pos, neg_ℤ, ◌≤ℤ◌}
use Rattle.jiff_core.specs.declared.civil.date.Date.{Date}
use Rattle.jiff_core.specs.Date.{epoch_day}
use Rattle.determination_dates.specs.declared.limit.TheConstants.{FIRST_DAY, LAST_DAY}

-- the day numbers of 1900-01-01 to 2999-12-31
abbrev pub IsDay : ℤ → Type 0
IsDay z = (FIRST_DAY ≤ℤ z) × (z ≤ℤ LAST_DAY)

-- the date is within the limit
abbrev pub IsLimited : Date → Type 0
IsLimited d = IsDay (epoch_day d)

-- ---- for proofs alone

-- the day is within a thousand years of the limit, where adding some days or months is safe
abbrev pub IsNear : ℤ → Type 0
IsNear z = (neg_ℤ (pos 400_000) ≤ℤ z) × (z ≤ℤ pos 800_000)

-- the day of an expiry before it is checked against the limit: at most some years past it
abbrev pub IsExpiryDay : ℤ → Type 0
IsExpiryDay z = (FIRST_DAY ≤ℤ z) × (z ≤ℤ pos 450_000)
