-- The date of a day number, as a function that computes.
use Rattle.std.specs.Prelude.{◌≡◌, ◌+◌, ◌-◌, ◌≤◌, ◌≤ℤ◌, ℕ, zero, suc, ℤ, pos, neg_ℤ, ◌+ℤ◌, int_le, int_lt, nat_le, nat_lt, ◌&&◌, Bool, true, false, Option, Some, None, if◌then◌else◌}
use Rattle.std.proofs.Common.{refl}
use Rattle.std.proofs.lemmas.Bool.{and_parts, leb-true}
use Rattle.jiff_core.specs.declared.civil.date.Date.{Date}
use Rattle.jiff_core.specs.Calendar.{days_in_year, days_in_month, IsCivilDate}
use Rattle.grid_exact.proofs.TestFacts.{le_in}
use Rattle.determination_dates.specs.declared.limit.TheConstants.{FIRST_DAY, LAST_DAY}
use Rattle.determination_dates.specs.Notices.{days_over}

-- the year of the day n days after 1 January of year y, and its place in that year, from 0; the first number bounds the years tried
abbrev pub year_from : ℕ → ℤ → ℕ → ℤ × ℕ
year_from zero y n = (y, n)
year_from (suc k) y n = if nat_lt n (days_in_year y) then (y, n) else year_from k (y +ℤ pos 1) (n - days_in_year y)

-- the month of the day n days after the first of month m, and its place in that month, from 0
abbrev pub month_from : ℕ → ℤ → ℕ → ℕ → ℕ × ℕ
month_from zero y m n = (m, n)
month_from (suc k) y m n = if nat_lt n (days_in_month y m) then (m, n) else month_from k y (m + 1) (n - days_in_month y m)

-- whether the calendar has this day
abbrev pub is_year : ℤ → Bool
is_year y = int_le (neg_ℤ (pos 9999)) y && int_le y (pos 9999)

abbrev pub is_between : ℕ → ℕ → ℕ → Bool
is_between low high n = nat_le low n && nat_le n high

abbrev pub is_civil : ℤ → ℕ → ℕ → Bool
is_civil y m d = is_year y && (is_between 1 12 m && is_between 1 (days_in_month y m) d)

-- the bounds on a year that follow from the test
year_of_test : (y : ℤ) → is_year y ≡ true → (neg_ℤ (pos 9999) ≤ℤ y) × (y ≤ℤ pos 9999)
year_of_test y h =
    let p = and_parts (int_le (neg_ℤ (pos 9999)) y) (int_le y (pos 9999)) h in
    (le_in _ _ p.0, le_in _ _ p.1)

between_of_test : (low high n : ℕ) → is_between low high n ≡ true → (low ≤ n) × (n ≤ high)
between_of_test low high n h =
    let p = and_parts (nat_le low n) (nat_le n high) h in
    (leb-true _ _ p.0, leb-true _ _ p.1)

pub civil_parts : (y : ℤ) (m d : ℕ) → is_civil y m d ≡ true → IsCivilDate y m d
civil_parts y m d h =
    let p = and_parts (is_year y) (is_between 1 12 m && is_between 1 (days_in_month y m) d) h in
    let q = and_parts (is_between 1 12 m) (is_between 1 (days_in_month y m) d) p.1 in
    (year_of_test y p.0, between_of_test 1 12 m q.0, between_of_test 1 (days_in_month y m) d q.1)

abbrev pub where_true : {P : Type 0} → (b : Bool) → (b ≡ true → P) → Option P
where_true true f = Some (f refl)
where_true false f = None

-- the date of this year, month and day, where the calendar has it
abbrev pub civil : ℤ → ℕ → ℕ → Option Date
civil y m d =
    where_true (is_civil y m d) (λ h. record {
      year = y;
      month = m;
      day = d;
      year_in = (civil_parts y m d h).0;
      month_in = (civil_parts y m d h).1;
      day_in = (civil_parts y m d h).2;
    })

-- the date of a year, a month and a place in the month
abbrev pub date_in : ℤ → ℕ × ℕ → Option Date
date_in y mn = civil y mn.0 (mn.1 + 1)

-- the date of a year and a place in the year
abbrev pub date_by : ℤ × ℕ → Option Date
date_by yn = date_in yn.0 (month_from 11 yn.0 1 yn.1)

-- the number of days from 1899-01-01 to a day; it is positive for dates within the limit and the 15 days before them
abbrev pub days_after_1899 : ℤ → ℕ
days_after_1899 z = days_over (z +ℤ pos 25_932)

-- the date of a day number, from 1899-01-01 on, for 2,000 years
unfoldable pub date_on : ℤ → Option Date
date_on z = if int_lt z (neg_ℤ (pos 25_932)) then None else date_by (year_from 2000 (pos 1899) (days_after_1899 z))

-- whether a day number is within the limit
abbrev pub is_day : ℤ → Bool
is_day z = int_le FIRST_DAY z && int_le z LAST_DAY

-- the date of a day number within the limit
abbrev pub limited_date : ℤ → Option Date
limited_date z = if is_day z then date_on z else None
