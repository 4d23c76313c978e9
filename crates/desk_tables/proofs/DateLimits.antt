-- The dates that acts compute are within the limit, and the days between dates are few.
use Rattle.std.proofs.Common.{sym, subst, arith, ℕ, ◌^◌, ◌<◌, ◌≤◌, Bool, true, false, if◌then◌else◌, Option, Some, None, IfSome, ℤ, pos, negsuc, ◌+ℤ◌, ◌-ℤ◌, ◌≤ℤ◌, int_lt}
use Rattle.jiff_core.specs.declared.civil.date.Date.{Date}
use Rattle.jiff_core.specs.Date.{epoch_day}
use Rattle.jiff_core.specs.Calendar.{days_in_month, IsCivilDate}
use Rattle.jiff_core.proofs.SignedLemmas.{signed_arith}
use Rattle.jiff_core.proofs.CalendarLemmas.{days_in_month_bounds}
use Rattle.jiff_core.proofs.DateLemmas.{days_from_civil-day}
use Rattle.jiff_span.specs.Months.{add_months, shifted_year, shifted_month, shifted_day, IsShiftable}
use Rattle.jiff_span.proofs.MonthLemmas.{shifted_civil, shifted_number, days_from_civil-month}
use Rattle.determination_dates.specs.declared.limit.TheConstants.{FIRST_DAY}
use Rattle.determination_dates.specs.declared.notice.TheConstants.{FORM_DAYS, NOTICE_DAYS}
use Rattle.determination_dates.specs.declared.determination.Decision.{Decision}
use Rattle.determination_dates.specs.declared.determination.Decision.TheVariants.{NoHazard, Hazard}
use Rattle.determination_dates.specs.Days.{IsDay, IsLimited, IsExpiryDay}
use Rattle.determination_dates.specs.Dates.{date_on}
use Rattle.determination_dates.specs.Effects.{expiry_by}
use Rattle.determination_dates.specs.Notices.{days_over, days_late, earlier_of}
use Rattle.determination_dates.specs.Computed.{with_some}
use Rattle.determination_dates.proofs.DateFacts.{date_there}
use Rattle.determination_dates.proofs.EffectFacts.{near}
use Rattle.determination_dates.proofs.Years.{can_shift, shifted_near}
use Rattle.wire_values.specs.Words.{IsAnyLimited}

-- ---- dates that may not be there

pub any_limited : (d : Option Date) → IfSome d IsLimited → IsAnyLimited d
any_limited None h = tt
any_limited (Some d) h = h

pub if_limited : (d : Option Date) → IsAnyLimited d → IfSome d IsLimited
if_limited None h = tt
if_limited (Some d) h = h

-- ---- the days between dates

few_days : (z : ℤ) → z ≤ℤ pos 1_000_000 → days_over z < 2 ^ 32
few_days (pos n) h = omega (arith, signed_arith, h)
few_days (negsuc n) h = omega arith

pub few_between : (today a : Date) → IsLimited today → IsLimited a → days_over (epoch_day today -ℤ epoch_day a) < 2 ^ 32
few_between today a h k = few_days (epoch_day today -ℤ epoch_day a) (omega (arith, signed_arith, h, k))

pub few_after_form : (received today : Date) → IsLimited received → IsLimited today → days_over (epoch_day today -ℤ (epoch_day received +ℤ FORM_DAYS)) < 2 ^ 32
few_after_form received today h k = few_days (epoch_day today -ℤ (epoch_day received +ℤ FORM_DAYS)) (omega (arith, signed_arith, h, k))

earlier_by : (b : Bool) (x y : ℤ) → FIRST_DAY ≤ℤ x → FIRST_DAY ≤ℤ y → FIRST_DAY ≤ℤ (if b then x else y)
earlier_by true x y h k = h
earlier_by false x y h k = k

earlier_limited : (start : Date) (permit : Option Date) → IsLimited start → IsAnyLimited permit → FIRST_DAY ≤ℤ earlier_of (epoch_day start) permit
earlier_limited start None h k = h.0
earlier_limited start (Some p) h k = earlier_by (int_lt (epoch_day p) (epoch_day start)) (epoch_day p) (epoch_day start) k.0 h.0

pub few_late : (received start : Date) (permit : Option Date) → IsLimited received → IsLimited start → IsAnyLimited permit
    → days_late received start permit < 2 ^ 32
few_late received start permit r h k =
    few_days (epoch_day received +ℤ NOTICE_DAYS -ℤ earlier_of (epoch_day start) permit) (omega (arith, signed_arith, r, earlier_limited start permit h k))

-- ---- months

-- some months are at least the days of a short month
pub month_later : (d : Date) (k : ℕ) → IsShiftable d (pos k) → 1 ≤ k → (epoch_day d +ℤ pos 28) ≤ℤ add_months d (pos k)
month_later d k h some =
    let s = shifted_civil d (pos k) h in
    let y = shifted_year d (pos k) in
    let m = shifted_month d (pos k) in
    let long = days_in_month_bounds d.year d.month in
    let short = days_in_month_bounds y m in
    let day = d.day_in in
    let last = days_in_month d.year d.month in
    let end : IsCivilDate d.year d.month last = (d.year_in, d.month_in, (omega (arith, long), omega arith)) in
    let first = days_from_civil-month d.year y d.month m last 1 end s.1.0 s.1.1 (omega arith) (omega (arith, signed_arith, shifted_number d (pos k), some)) in
    let here = days_from_civil-day d.year d.month d.day last day.0 (omega (arith, long)) in
    let there = days_from_civil-day y m 1 (shifted_day d (pos k)) (omega arith) s.2.0 in
    omega (arith, signed_arith, first, here, there, long, short, day)

-- ---- the expiry

-- the date of a day within the limit
pub dated : (o : Option ℤ) → IfSome o IsDay → IsAnyLimited (with_some o date_on)
dated None h = tt
dated (Some z) h =
    let r = date_there z (omega (arith, signed_arith, h)) (omega (arith, signed_arith, h)) in
    subst IsAnyLimited (sym r.1) (rw (sym r.2) at h)

pub expiry_near : (decision : Decision) (set effective : Option Date) → IfSome set IsLimited → IfSome effective IsLimited
    → IfSome (expiry_by decision set effective) IsExpiryDay
expiry_near Hazard set effective h k = tt
expiry_near NoHazard (Some day) effective h k = omega (arith, signed_arith, h)
expiry_near NoHazard None None h k = tt
expiry_near NoHazard None (Some d) h k =
    let n = near d k in
    let far = shifted_near d 18 n (omega arith) in
    (omega (arith, signed_arith, month_later d 18 (can_shift d 18 n (omega arith)) (omega arith), k), omega (arith, signed_arith, far, k))
