-- Days on which the government is open: 77.39(c).
use Rattle.std.specs.Prelude.{◌≡◌, ◌<◌, Bool, true, false, List, [], ◌∷◌, ℤ}
use Rattle.std.specs.List.{list_any, All}
use Rattle.std.specs.List.Sorted.{IsStrictlySortedBy}
use Rattle.std.specs.Ordering.{int_cmp, int_eq, is_eq, on}
use Rattle.std.specs.declared.cmp.Ordering.{Ordering}
use Rattle.std.specs.BTreeSet.{insert_key}
use Rattle.std.specs.Set.{remove_key}
use Rattle.jiff_core.specs.declared.civil.date.Date.{Date}
use Rattle.jiff_core.specs.Date.{epoch_day}
use Rattle.jiff_core.specs.Calendar.{weekday_number}
use Rattle.determination_dates.specs.Days.{IsLimited}

abbrev pub is_none_of : {A : Type 0} → List A → Bool
is_none_of [] = true
is_none_of (x ∷ xs) = false

-- the day is one of the closed days
abbrev pub is_closed : List Date → ℤ → Bool
is_closed closed z = list_any (λ c. int_eq z (epoch_day c)) closed

-- no Saturday, no Sunday and no closed day; weekdays are counted from Monday, which is 0
abbrev pub IsOpen : List Date → ℤ → Type 0
IsOpen closed z = (weekday_number z < 5) × (is_closed closed z ≡ false)

-- dates are ordered by their day numbers
abbrev pub date_cmp : Date → Date → Ordering
date_cmp = on epoch_day int_cmp

-- the closed days with this day added in its place
abbrev pub with_day : Date → List Date → List Date
with_day d closed = insert_key date_cmp closed d

-- the closed days without this day
abbrev pub without_day : Date → List Date → List Date
without_day d closed = remove_key (λ c. is_eq (date_cmp d c)) closed

-- a list that is a set of closed days
pub record AreClosedDays (closed : List Date) : Type 0 where
  pub rising : IsStrictlySortedBy date_cmp closed
  pub limited : All IsLimited closed
