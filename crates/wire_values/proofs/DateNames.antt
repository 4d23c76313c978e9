-- A date is read back from its text.
use Rattle.std.proofs.Common.{arith, ℕ, ◌+◌, ◌*◌, ◌-◌, ◌/◌, ◌<◌, ◌≤◌, ◌≡◌, ◌≢◌, ℤ, pos, Bool, true, false, List, [], ◌∷◌, Option, Some, None, get_or, length, All, refl, ap, sym, ◌∙◌, inl, inr, codes}
use Rattle.std.specs.Prelude.{is_some}
use Rattle.std.specs.Str.{IsUtf8}
use Rattle.std.proofs.lemmas.Str.{IsUtf8-from_ascii}
use Rattle.std.proofs.lemmas.Str.Ascii.{IsAscii-from_all}
use Rattle.std.proofs.lemmas.List.Elements.{All-nil, All-cons}
use Rattle.jiff_core.specs.declared.civil.date.Date.{Date}
use Rattle.jiff_core.specs.Calendar.{days_from_civil}
use Rattle.jiff_core.specs.Date.{epoch_day}
use Rattle.jiff_core.proofs.CalendarLemmas.{days_in_month_bounds}
use Rattle.jiff_core.proofs.SignedLemmas.{signed_arith}
use Rattle.determination_dates.specs.Days.{IsLimited}
use Rattle.determination_dates.specs.Dates.{limited_date}
use Rattle.determination_dates.specs.Text.{last_digit, year_of, ymd_text, date_text}
use Rattle.determination_dates.proofs.Texts.{places, four_digits, one_date}
use Rattle.determination_dates.proofs.DateFacts.{limited_by, limited_sound}
use Rattle.determination_dates.proofs.Limits.{limited_year}
use Rattle.wire_values.specs.Words.{grant_word, optional_date, IsAnyLimited}
use Rattle.wire_values.specs.Wanted.{Fits, OptionalDateWanted, CompletionWanted, is_granted}
use Rattle.wire_values.proofs.Decisions.{Decided, decided_by, same_text}

-- the digit at a place
digit : List ℕ → ℕ → ℕ
digit text i = get_or text i 0 - 48

year_named : List ℕ → ℕ
year_named text = digit text 0 * 1000 + digit text 1 * 100 + digit text 2 * 10 + digit text 3

month_named : List ℕ → ℕ
month_named text = digit text 5 * 10 + digit text 6

day_named : List ℕ → ℕ
day_named text = digit text 8 * 10 + digit text 9

-- the date within the limit whose text it would be
pub date_named : List ℕ → Option Date
date_named text = limited_date (days_from_civil (pos (year_named text)) (month_named text) (day_named text))

pub date_again : (d : Date) → IsLimited d → date_named (date_text d) ≡ Some d
unfolding date_named year_named month_named day_named digit
date_again d h =
    let text : List ℕ = date_text d in
    let p = places text (year_of d.year) d.month d.day refl in
    let f = four_digits d h in
    let month = d.month_in in
    let day = d.day_in in
    let long = days_in_month_bounds d.year d.month in
    let y : year_named text ≡ year_of d.year = omega (arith, p.century, p.rest, f.1) in
    let m : month_named text ≡ d.month = omega (arith, p.month, month) in
    let n : day_named text ≡ d.day = omega (arith, p.day, day, long) in
    limited_by (days_from_civil (pos (year_named text)) (month_named text) (day_named text)) d h (rw (y, m, n, sym f.0) refl)

-- ---- whether a text is that of a date

by_name : (text : List ℕ) (o : Option Date) → date_named text ≡ o → Decided ((date : Date) × (text ≡ date_text date) × IsLimited date)
unfolding date_named
by_name text None e = inr (λ h. let none : None ≡ Some h.0 = sym e ∙ ap date_named h.1 ∙ date_again h.0 h.2 in cc)
by_name text (Some d) e =
    let limited : IsLimited d = (limited_sound (days_from_civil (pos (year_named text)) (month_named text) (day_named text)) d e).0 in
    let same : (h : (date : Date) × (text ≡ date_text date) × IsLimited date) → h.0 ≡ d =
    λ h. let s : Some h.0 ≡ Some d = sym (date_again h.0 h.2) ∙ ap date_named (sym h.1) ∙ e in cc in
    decided_by (λ (t : text ≡ date_text d). (d, t, limited)) (λ (h : (date : Date) × (text ≡ date_text date) × IsLimited date). h.1 ∙ ap date_text (same h))
    (same_text text (date_text d))

pub date_decided : (text : List ℕ) → Decided ((date : Date) × (text ≡ date_text date) × IsLimited date)
date_decided text = by_name text (date_named text) refl

is_date : (text : List ℕ) → text ≢ codes "-" → (d : Option Date) → text ≡ optional_date d → IsAnyLimited d → (date : Date) × (text ≡ date_text date) × IsLimited date
is_date text no_dash None e h = absurd (no_dash e)
is_date text no_dash (Some d) e h = (d, e, h)

pub optional_decided : (text : List ℕ) → Decided ((date : Option Date) × (text ≡ optional_date date) × IsAnyLimited date)
optional_decided text = elim (same_text text (codes "-")) [
  | inl e ↦ inl (None, e, tt)
  | inr no_dash ↦ decided_by (λ (h : (date : Date) × (text ≡ date_text date) × IsLimited date). (Some h.0, h.1, h.2))
      (λ (h : (date : Option Date) × (text ≡ optional_date date) × IsAnyLimited date). is_date text no_dash h.0 h.1 h.2) (date_decided text)
]

-- ---- a completion date, by whether the permit is granted

granted_date : (text : List ℕ) (d : Option Date) → text ≡ optional_date d → IsAnyLimited d → is_some d ≡ true → (date : Date) × (text ≡ date_text date) × IsLimited date
granted_date text None e h s = absurd (cc)
granted_date text (Some d) e h s = (d, e, h)

refused_dash : (text : List ℕ) (d : Option Date) → text ≡ optional_date d → is_some d ≡ false → text ≡ codes "-"
refused_dash text None e s = e
refused_dash text (Some d) e s = absurd (cc)

pub completion_decided : (granted : Bool) (text : List ℕ) → Decided ((date : Option Date) × (text ≡ optional_date date) × IsAnyLimited date × (is_some date ≡ granted))
completion_decided true text =
    decided_by (λ (h : (date : Date) × (text ≡ date_text date) × IsLimited date). (Some h.0, h.1, h.2, refl))
    (λ (h : (date : Option Date) × (text ≡ optional_date date) × IsAnyLimited date × (is_some date ≡ true)). granted_date text h.0 h.1 h.2 h.3) (date_decided text)
completion_decided false text =
    decided_by (λ (e : text ≡ codes "-"). (None, e, tt, refl))
    (λ (h : (date : Option Date) × (text ≡ optional_date date) × IsAnyLimited date × (is_some date ≡ false)). refused_dash text h.0 h.1 h.3) (same_text text (codes "-"))

pub told_grant : (granted : Bool) → is_granted (grant_word granted) ≡ granted
told_grant true = refl
told_grant false = refl

pub completion_fits : (granted : Bool) (before : List ℕ) (d : Option Date) → before ≡ grant_word granted → IsAnyLimited d → is_some d ≡ granted
    → Fits CompletionWanted before (optional_date d)
completion_fits granted before d e h s = (d, refl, h, s ∙ sym (ap is_granted e ∙ told_grant granted))

pub no_completion : (granted : Bool) (before text : List ℕ) → before ≡ grant_word granted
    → ((d : Option Date) → IsAnyLimited d → is_some d ≡ granted → text ≢ optional_date d) → Fits CompletionWanted before text → ⊥
no_completion granted before text e none h = none h.0 h.2 (h.3 ∙ ap is_granted e ∙ told_grant granted) h.1

-- ---- what is no date

pub none_granted : (text : List ℕ) → ((d : Date) → IsLimited d → text ≢ date_text d) → (d : Option Date) → IsAnyLimited d → is_some d ≡ true → text ≢ optional_date d
none_granted text none None h s e = cc
none_granted text none (Some d) h s e = none d h e

pub none_refused : (text : List ℕ) → text ≢ codes "-" → (d : Option Date) → is_some d ≡ false → text ≢ optional_date d
none_refused text no_dash None s e = no_dash e
none_refused text no_dash (Some d) s e = cc

pub none_optional : (text before : List ℕ) → text ≢ codes "-" → ((d : Date) → IsLimited d → text ≢ date_text d) → Fits OptionalDateWanted before text → ⊥
none_optional text before no_dash none h = let d = is_date text no_dash h.0 h.1 h.2 in none d.0 d.2 d.1

-- ---- dates of one text are one

no_dash_date : (d : Date) → date_text d ≡ codes "-" → ⊥
no_dash_date d e = let long : 10 ≡ 1 = ap length e in absurd (omega (arith, long))

pub one_optional : (a b : Option Date) → IsAnyLimited a → IsAnyLimited b → optional_date a ≡ optional_date b → a ≡ b
one_optional None None h k e = refl
one_optional None (Some b) h k e = absurd (no_dash_date b (sym e))
one_optional (Some a) None h k e = absurd (no_dash_date a e)
one_optional (Some a) (Some b) h k e = ap Some (one_date a b h k e)

-- ---- the bytes of a date

pub a_day : Date
a_day = record {
  year = pos 2000;
  month = 1;
  day = 1;
  year_in = (omega (arith, signed_arith), omega (arith, signed_arith));
  month_in = (omega arith, omega arith);
  day_in = (omega arith, omega (arith, days_in_month_bounds (pos 2000) 1));
}

pub a_day_limited : IsLimited a_day
unfolding a_day
a_day_limited = (limited_year a_day).1 (omega (arith, signed_arith), omega (arith, signed_arith))

digit_then : (P : ℕ → Type 0) → ((n : ℕ) → P (last_digit n)) → (n : ℕ) (xs : List ℕ) → All P xs → All P (last_digit n ∷ xs)
digit_then P digits n xs h = All-cons P (last_digit n) xs (digits n) h

-- each of them is a digit or a dash
pub date_bytes : (P : ℕ → Type 0) → ((n : ℕ) → P (last_digit n)) → P 45 → (y m n : ℕ) → All P (ymd_text y m n)
date_bytes P digits dash y m n =
    let one : List ℕ = last_digit n ∷ [] in
    let two : List ℕ = last_digit (n / 10) ∷ one in
    let three : List ℕ = last_digit m ∷ 45 ∷ two in
    let four : List ℕ = last_digit (m / 10) ∷ three in
    let five : List ℕ = last_digit y ∷ 45 ∷ four in
    let six : List ℕ = last_digit (y / 10) ∷ five in
    let seven : List ℕ = last_digit (y / 100) ∷ six in
    let day : All P two = digit_then P digits (n / 10) one (digit_then P digits n [] (All-nil P)) in
    let month : All P four = digit_then P digits (m / 10) three (digit_then P digits m (45 ∷ two) (All-cons P 45 two dash day)) in
    digit_then P digits (y / 1000) seven (digit_then P digits (y / 100) six (digit_then P digits (y / 10) five (digit_then P digits y (45 ∷ four) (All-cons P 45 four dash month))))

digit_small : (n : ℕ) → last_digit n < 128
digit_small n = omega arith

pub date_utf8 : (d : Date) → IsUtf8 (date_text d)
date_utf8 d = IsUtf8-from_ascii (date_text d) (IsAscii-from_all (date_text d) (date_bytes (λ b. b < 128) digit_small (omega arith) (year_of d.year) d.month d.day))
