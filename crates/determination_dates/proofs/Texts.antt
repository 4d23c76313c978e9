-- Dates and their texts.
use Rattle.std.proofs.Common.{◌≡◌, ℕ, ◌+◌, ◌-◌, ◌*◌, ◌/◌, ◌%◌, ◌<◌, ◌≤◌, arith, refl, sym, ap, ◌∙◌, List, [], ◌∷◌, length, get_or, ℤ, pos, negsuc, Option, Some, None, IfNone}
use Rattle.jiff_core.specs.declared.civil.date.Date.{Date}
use Rattle.jiff_core.specs.Calendar.{IsBetween}
use Rattle.jiff.proofs.Family.{epoch_day_same, same_date}
use Rattle.jiff_core.proofs.CalendarLemmas.{days_in_month_bounds}
use Rattle.jiff_core.proofs.SignedLemmas.{signed_arith}
use Rattle.determination_dates.specs.Days.{IsLimited}
use Rattle.determination_dates.specs.Text.{last_digit, ymd_text, year_of, date_text}
use Rattle.determination_dates.proofs.EffectFacts.{near}
use Rattle.determination_dates.proofs.Years.{near_year}

-- two digits are those of one number below 100
pub pair_value : (t o : ℕ) → 48 ≤ t → t ≤ 57 → 48 ≤ o → o ≤ 57 → (t ≡ last_digit (((t - 48) * 10 + (o - 48)) / 10)) × (o ≡ last_digit ((t - 48) * 10 + (o - 48)))
pair_value t o a b c d = (omega arith, omega arith)

pub no_pair : (n b : ℕ) → b ≡ last_digit n → (48 ≤ b) × (b ≤ 57)
no_pair n b e = omega (arith, e)

-- ten bytes are those at their places
pub spelt : (bs : List ℕ) → length bs ≡ 10 → bs ≡ get_or bs 0 0 ∷ get_or bs 1 0 ∷ get_or bs 2 0 ∷ get_or bs 3 0 ∷ get_or bs 4 0 ∷ get_or bs 5 0 ∷ get_or bs 6 0 ∷ get_or bs 7 0 ∷ get_or bs 8 0 ∷ get_or bs 9 0 ∷ []
spelt (a ∷ b ∷ c ∷ d ∷ e ∷ f ∷ g ∷ h ∷ i ∷ j ∷ []) l = refl
spelt (a ∷ b ∷ c ∷ d ∷ e ∷ f ∷ g ∷ h ∷ i ∷ j ∷ k ∷ ks) l = absurd (omega (arith, l))
spelt [] l = absurd (omega (arith, l))
spelt (a ∷ []) l = absurd (omega (arith, l))
spelt (a ∷ b ∷ []) l = absurd (omega (arith, l))
spelt (a ∷ b ∷ c ∷ []) l = absurd (omega (arith, l))
spelt (a ∷ b ∷ c ∷ d ∷ []) l = absurd (omega (arith, l))
spelt (a ∷ b ∷ c ∷ d ∷ e ∷ []) l = absurd (omega (arith, l))
spelt (a ∷ b ∷ c ∷ d ∷ e ∷ f ∷ []) l = absurd (omega (arith, l))
spelt (a ∷ b ∷ c ∷ d ∷ e ∷ f ∷ g ∷ []) l = absurd (omega (arith, l))
spelt (a ∷ b ∷ c ∷ d ∷ e ∷ f ∷ g ∷ h ∷ []) l = absurd (omega (arith, l))
spelt (a ∷ b ∷ c ∷ d ∷ e ∷ f ∷ g ∷ h ∷ i ∷ []) l = absurd (omega (arith, l))

-- the bytes at the places of a text
pub record ArePlaces (bs : List ℕ) (y m d : ℕ) : Type 0 where
  pub long : length bs ≡ 10
  pub century : (get_or bs 0 0 ≡ last_digit (y / 100 / 10)) × (get_or bs 1 0 ≡ last_digit (y / 100))
  pub rest : (get_or bs 2 0 ≡ last_digit (y % 100 / 10)) × (get_or bs 3 0 ≡ last_digit (y % 100))
  pub first : get_or bs 4 0 ≡ 45
  pub month : (get_or bs 5 0 ≡ last_digit (m / 10)) × (get_or bs 6 0 ≡ last_digit m)
  pub second : get_or bs 7 0 ≡ 45
  pub day : (get_or bs 8 0 ≡ last_digit (d / 10)) × (get_or bs 9 0 ≡ last_digit d)

pub places : (bs : List ℕ) (y m d : ℕ) → bs ≡ ymd_text y m d → ArePlaces bs y m d
places bs y m d e = rw e record {
  long = refl;
  century = (omega arith, omega arith);
  rest = (omega arith, omega arith);
  first = refl;
  month = (refl, refl);
  second = refl;
  day = (refl, refl);
}

pub from_places : (bs : List ℕ) (y m d : ℕ) → ArePlaces bs y m d → bs ≡ ymd_text y m d
from_places bs y m d p =
    let a : last_digit (y / 1000) ≡ get_or bs 0 0 = omega (arith, p.century) in
    let b : last_digit (y / 10) ≡ get_or bs 2 0 = omega (arith, p.rest) in
    let c : last_digit y ≡ get_or bs 3 0 = omega (arith, p.rest) in
    spelt bs p.long ∙ rw (a, b, c, p.century.1, p.first, p.month.0, p.month.1, p.second, p.day.0, p.day.1) refl

-- a text has one year, month and day
pub text_same : (y m d y' m' d' : ℕ) → y < 10000 → m < 100 → d < 100 → y' < 10000 → m' < 100 → d' < 100 → ymd_text y m d ≡ ymd_text y' m' d' → (y ≡ y') × (m ≡ m') × (d ≡ d')
text_same y m d y' m' d' a b c a' b' c' e =
    let p = places _ y m d refl in
    let q = places _ y' m' d' e in
    let h : y / 100 ≡ y' / 100 = omega (arith, p.century, q.century, a, a') in
    let r : y % 100 ≡ y' % 100 = omega (arith, p.rest, q.rest) in
    (omega (arith, h, r), omega (arith, p.month, q.month, b, b'), omega (arith, p.day, q.day, c, c'))

-- a date within the limit has a year of four digits
pub four_digits : (d : Date) → IsLimited d → (d.year ≡ pos (year_of d.year)) × (year_of d.year < 10000)
four_digits d h = by_sign d.year (near_year d (near d h))
  where
    by_sign : (z : ℤ) → IsBetween (pos 800) (pos 4300) z → (z ≡ pos (year_of z)) × (year_of z < 10000)
    by_sign (pos n) h = (refl, omega (arith, signed_arith, h))
    by_sign (negsuc n) h = absurd (omega (arith, signed_arith, h))

pub date_same : (d : Date) (y m n : ℕ) → IsLimited d → y < 10000 → m < 100 → n < 100 → ymd_text y m n ≡ date_text d → (d.year ≡ pos y) × (d.month ≡ m) × (d.day ≡ n)
date_same d y m n h a b c e =
    let f = four_digits d h in
    let month = d.month_in in
    let day = d.day_in in
    let long = days_in_month_bounds d.year d.month in
    let s = text_same y m n (year_of d.year) d.month d.day a b c f.1 (omega (arith, month)) (omega (arith, day, long)) e in
    (f.0 ∙ ap pos (sym s.0), sym s.1, sym s.2)

pub if_none : {A : Type 0} {P Q : Type 0} (o : Option A) → (P → Q) → IfNone o P → IfNone o Q
if_none None f h = f h
if_none (Some x) f h = h

pub one_date : (a b : Date) → IsLimited a → IsLimited b → date_text a ≡ date_text b → a ≡ b
one_date a b h k e =
    let f = four_digits a h in
    let month = a.month_in in
    let day = a.day_in in
    let long = days_in_month_bounds a.year a.month in
    let s = date_same b (year_of a.year) a.month a.day k f.1 (omega (arith, month)) (omega (arith, day, long)) e in
    same_date a b (epoch_day_same a b (f.0 ∙ sym s.0) (sym s.1) (sym s.2))
