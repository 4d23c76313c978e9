-- The walk past days that are not open.
use Rattle.std.proofs.Common.{◌≡◌, arith, subst, List, ℤ, pos, ◌+ℤ◌, ◌≤ℤ◌, ◌<◌, ℕ, ◌+◌, ◌-◌}
use Rattle.std.proofs.lemmas.Int.{by_lt_z}
use Rattle.jiff_core.specs.declared.civil.date.Date.{Date}
use Rattle.jiff_core.proofs.SignedLemmas.{signed_arith}
use borrow.Author.Differences.{up, down}
use Rattle.determination_dates.specs.Closed.{IsOpen}

-- past a day that is not open
pub none_on : (closed : List Date) (from z w : ℤ) → ((y : ℤ) → from ≤ℤ y → IsOpen closed y → z ≤ℤ y) → ¬ IsOpen closed z → w ≡ z +ℤ pos 1
    → (y : ℤ) → from ≤ℤ y → IsOpen closed y → w ≤ℤ y
none_on closed from z w before shut e y later is =
    by_lt_z z y (λ lt. omega (arith, signed_arith, lt, e))
    (λ ge. let same : y ≡ z = omega (arith, signed_arith, ge, before y later is) in absurd (shut (subst (IsOpen closed) same is)))

-- the days that are left of the walk
abbrev pub days_left : ℤ → ℕ
days_left z = 380_000 + down z - up z

pub fewer_left : (z w : ℤ) → z ≤ℤ pos 376_199 → w ≡ z +ℤ pos 1 → days_left w < days_left z
fewer_left z w h e = omega (arith, signed_arith, h, e)
