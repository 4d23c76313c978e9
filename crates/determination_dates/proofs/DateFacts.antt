-- The date of a day number is the one that has it.
use Rattle.std.proofs.Common.{◌≡◌, refl, sym, ap, ◌∙◌, arith, ℕ, zero, suc, ◌+◌, ◌-◌, ◌*◌, ◌<◌, ◌≤◌, nat_lt, Bool, true, false, if◌then◌else◌, Option, Some, None, ℤ, pos, negsuc, neg_ℤ, ◌+ℤ◌, ◌≤ℤ◌, int_lt, int_le}
use Rattle.std.proofs.lemmas.Int.{ints}
use Rattle.std.proofs.lemmas.Bool.{le-leb, and_parts}
use Rattle.jiff.proofs.Family.{same_date}
use Rattle.jiff_core.specs.declared.civil.date.Date.{Date}
use Rattle.jiff_core.specs.Date.{epoch_day}
use Rattle.jiff_core.specs.Calendar.{days_in_year, days_in_month, day_count, days_of_years, days_of_months, IsCivilDate}
use Rattle.jiff_core.proofs.SignedLemmas.{signed_arith}
use Rattle.jiff_core.proofs.CalendarLemmas.{days_from_civil-day_count, days_in_year_bounds, day_count-next_year, day_count-next_month, day_count-last_of_year, day_count-day}
use Rattle.std.proofs.lemmas.Option.{none-some, same_Some}
use Rattle.grid_exact.proofs.TestFacts.{le_in, le_out}
use Rattle.determination_dates.specs.declared.limit.TheConstants.{FIRST_DAY, LAST_DAY}
use Rattle.determination_dates.specs.Days.{IsDay, IsLimited}
use Rattle.determination_dates.specs.Notices.{days_over}
use Rattle.determination_dates.specs.Dates.{year_from, month_from, is_civil, where_true, date_in, date_by, days_after_1899, date_on, is_day, limited_date}

-- ---- years

record YearFound (k : ℕ) (y : ℤ) (n : ℕ) (r : ℤ × ℕ) : Type 0 where
  same : day_count r.0 1 1 + r.1 ≡ day_count y 1 1 + n
  inside : r.1 < days_in_year r.0
  low : y ≤ℤ r.0
  high : r.0 ≤ℤ (y +ℤ pos k)

below : (m n : ℕ) → nat_lt m n ≡ true → m < n
below m n h = grind (arith, h)

above : (m n : ℕ) → nat_lt m n ≡ false → n ≤ m
above m n h = grind (arith, h)

year_step : (k : ℕ) (y : ℤ) (n : ℕ) (more : ℤ × ℕ) (b : Bool) → nat_lt n (days_in_year y) ≡ b → neg_ℤ (pos 9999) ≤ℤ y
    → (days_in_year y ≤ n → YearFound k (y +ℤ pos 1) (n - days_in_year y) more) → YearFound (suc k) y n (if b then (y, n) else more)
year_step k y n more true h low ih = record { same = refl; inside = below _ _ h; low = omega (arith, signed_arith); high = omega (arith, signed_arith) }
year_step k y n more false h low ih =
    let ge = above _ _ h in
    let r = ih ge in
    record {
      same = omega (arith, r.same, day_count-next_year y (y +ℤ pos 1) (omega (arith, signed_arith, low)) refl, ge);
      inside = r.inside;
      low = omega (arith, signed_arith, r.low);
      high = omega (arith, signed_arith, r.high);
    }

year_walk : (k : ℕ) (y : ℤ) (n : ℕ) → neg_ℤ (pos 9999) ≤ℤ y → n < 365 * k → YearFound k y n (year_from k y n)
year_walk zero y n low short = absurd (omega (arith, short))
year_walk (suc k) y n low short =
    year_step k y n (year_from k (y +ℤ pos 1) (n - days_in_year y)) _ refl low
    (λ ge. year_walk k (y +ℤ pos 1) (n - days_in_year y) (omega (arith, signed_arith, low)) (omega (arith, short, ge, days_in_year_bounds y)))

-- ---- months

record MonthFound (y : ℤ) (m n : ℕ) (r : ℕ × ℕ) : Type 0 where
  same : day_count y r.0 1 + r.1 ≡ day_count y m 1 + n
  inside : r.1 < days_in_month y r.0
  low : 1 ≤ r.0
  high : r.0 ≤ 12

month_step : (y : ℤ) (m n : ℕ) (more : ℕ × ℕ) (b : Bool) → nat_lt n (days_in_month y m) ≡ b → 1 ≤ m → m ≤ 12
    → (days_in_month y m ≤ n → MonthFound y (m + 1) (n - days_in_month y m) more) → MonthFound y m n (if b then (m, n) else more)
month_step y m n more true h low high ih = record { same = refl; inside = below _ _ h; low = low; high = high }
month_step y m n more false h low high ih =
    let ge = above _ _ h in
    let r = ih ge in
    record { same = omega (arith, r.same, day_count-next_month y m low, ge); inside = r.inside; low = r.low; high = r.high }

december : (y : ℤ) (n : ℕ) → day_count y 12 1 + n < day_count y 1 1 + days_in_year y → n < 31
december y n h = omega (arith, h, day_count-last_of_year y, day_count-day y 12 31 1 (omega arith) (omega arith))

month_walk : (k : ℕ) (y : ℤ) (m n : ℕ) → 1 ≤ m → k + m ≡ 12 → day_count y m 1 + n < day_count y 1 1 + days_in_year y → MonthFound y m n (month_from k y m n)
month_walk zero y m n low is short =
    let twelve : m ≡ 12 = omega (arith, is) in
    record { same = refl; inside = rw twelve (december y n (rw twelve at short)); low = low; high = omega (arith, is) }
month_walk (suc k) y m n low is short =
    month_step y m n (month_from k y (m + 1) (n - days_in_month y m)) _ refl low (omega (arith, is))
    (λ ge. month_walk k y (m + 1) (n - days_in_month y m) (omega arith) (omega (arith, is)) (omega (arith, short, ge, day_count-next_month y m low)))

-- ---- dates

civil_true : (y : ℤ) (m d : ℕ) → IsCivilDate y m d → is_civil y m d ≡ true
civil_true y m d h = rw (le_out _ _ h.0.0, le_out _ _ h.0.1, le-leb _ _ h.1.0, le-leb _ _ h.1.1, le-leb _ _ h.2.0, le-leb _ _ h.2.1) refl

there : (b : Bool) (f : b ≡ true → Date) (z : ℤ) → b ≡ true → ((h : b ≡ true) → epoch_day (f h) ≡ z) → (e : Date) × (where_true b f ≡ Some e) × (epoch_day e ≡ z)
there true f z h days = (f refl, refl, days refl)
there false f z h days = absurd (cc (h))

begin : day_count (pos 1899) 1 1 ≡ 4_346_021
unfolding day_count days_of_years days_of_months
begin = refl

over_by : (z : ℤ) → pos 0 ≤ℤ z → pos (days_over z) ≡ z
over_by (pos n) h = refl
over_by (negsuc n) h = absurd (omega (arith, signed_arith, h))

over : (z : ℤ) → neg_ℤ (pos 25_932) ≤ℤ z → pos (days_over (z +ℤ pos 25_932)) ≡ z +ℤ pos 25_932
over z h = over_by (z +ℤ pos 25_932) (omega (arith, signed_arith, h))

not_before : (z : ℤ) → neg_ℤ (pos 25_932) ≤ℤ z → int_lt z (neg_ℤ (pos 25_932)) ≡ false
not_before z h = grind (arith, ints, h)

-- in the year and the month that were found
in_month : (y : ℤ) (n m : ℕ) (z : ℤ) (q : ℕ × ℕ) → neg_ℤ (pos 9999) ≤ℤ y → y ≤ℤ pos 9999 → day_count y 1 1 + m ≡ 4_346_021 + n → pos n ≡ z +ℤ pos 25_932
    → MonthFound y 1 m q → (e : Date) × (date_in y q ≡ Some e) × (epoch_day e ≡ z)
in_month y n m z q low high same is found =
    let count : day_count y q.0 (q.1 + 1) ≡ 4_346_021 + n = omega (arith, found.same, same, day_count-day y q.0 (q.1 + 1) 1 (omega arith) (omega arith)) in
    let good : IsCivilDate y q.0 (q.1 + 1) = ((low, high), (found.low, found.high), (omega arith, omega (arith, found.inside))) in
    there (is_civil y q.0 (q.1 + 1)) _ z (civil_true y q.0 (q.1 + 1) good)
    (λ h. omega (arith, signed_arith, days_from_civil-day_count y q.0 (q.1 + 1), count, is))

in_year : (n : ℕ) (z : ℤ) (r : ℤ × ℕ) → pos n ≡ z +ℤ pos 25_932 → YearFound 2000 (pos 1899) n r → (e : Date) × (date_by r ≡ Some e) × (epoch_day e ≡ z)
in_year n z r is found =
    in_month r.0 n r.1 z (month_from 11 r.0 1 r.1) (omega (arith, signed_arith, found.low)) (omega (arith, signed_arith, found.high)) (omega (arith, found.same, begin)) is
    (month_walk 11 r.0 1 r.1 (omega arith) refl (omega (arith, found.inside)))

abbrev Found : Option Date → ℤ → Type 0
Found o z = (e : Date) × (o ≡ Some e) × (epoch_day e ≡ z)

otherwise : (b : Bool) (o : Option Date) (z : ℤ) → b ≡ false → Found o z → Found (if b then None else o) z
otherwise true o z h f = absurd (cc (h))
otherwise false o z h f = f

-- the date of each day from 1899-01-01 to the year 3500 or so
pub date_there : (z : ℤ) → neg_ℤ (pos 25_932) ≤ℤ z → z ≤ℤ pos 600_000 → (e : Date) × (date_on z ≡ Some e) × (epoch_day e ≡ z)
unfolding date_on
date_there z low high =
    let is : pos (days_after_1899 z) ≡ z +ℤ pos 25_932 = over z low in
    otherwise _ _ z (not_before z low)
    (in_year (days_after_1899 z) z (year_from 2000 (pos 1899) (days_after_1899 z)) is
    (year_walk 2000 (pos 1899) (days_after_1899 z) (omega (arith, signed_arith)) (omega (arith, signed_arith, is, high))))

pub date_again : (d : Date) → neg_ℤ (pos 25_932) ≤ℤ epoch_day d → epoch_day d ≤ℤ pos 600_000 → date_on (epoch_day d) ≡ Some d
date_again d low high =
    let r = date_there (epoch_day d) low high in
    r.1 ∙ ap Some (same_date r.0 d r.2)

-- ---- within the limit

pub day_true : (z : ℤ) → IsDay z → is_day z ≡ true
day_true z h = rw (le_out _ _ h.0, le_out _ _ h.1) refl

pub true_day : (z : ℤ) → is_day z ≡ true → IsDay z
true_day z h =
    let p = and_parts (int_le FIRST_DAY z) (int_le z LAST_DAY) h in
    (le_in _ _ p.0, le_in _ _ p.1)

pub limited_again : (d : Date) → IsLimited d → limited_date (epoch_day d) ≡ Some d
limited_again d h = rw (day_true (epoch_day d) h) (date_again d (omega (arith, signed_arith, h)) (omega (arith, signed_arith, h)))

pub limited_by : (z : ℤ) (d : Date) → IsLimited d → z ≡ epoch_day d → limited_date z ≡ Some d
limited_by z d h e = ap limited_date e ∙ limited_again d h

none_where : (b : Bool) (o : Option Date) → (b ≡ true → ⊥) → (if b then o else None) ≡ None
none_where true o h = absurd (h refl)
none_where false o h = refl

pub limited_none : (z : ℤ) → ¬ IsDay z → limited_date z ≡ None
limited_none z h = none_where (is_day z) (date_on z) (λ e. h (true_day z e))

limited_some : (b : Bool) (z : ℤ) (d : Date) → is_day z ≡ b → (if b then date_on z else None) ≡ Some d → IsLimited d × (epoch_day d ≡ z)
limited_some false z d t e = absurd (none-some d e)
limited_some true z d t e =
    let h = true_day z t in
    let r = date_there z (omega (arith, signed_arith, h)) (omega (arith, signed_arith, h)) in
    let same : epoch_day d ≡ z = ap epoch_day (same_Some d r.0 (sym e ∙ r.1)) ∙ r.2 in
    (rw (sym same) at h, same)

pub limited_sound : (z : ℤ) (d : Date) → limited_date z ≡ Some d → IsLimited d × (epoch_day d ≡ z)
limited_sound z d e = limited_some (is_day z) z d refl e
