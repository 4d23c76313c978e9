-- Among so many days there is an open one, so the first one that is found is the deadline.
use Rattle.std.proofs.Common.{◌≡◌, refl, subst, arith, ℕ, zero, suc, ◌+◌, ◌*◌, ◌<◌, ◌≤◌, Bool, true, false, if◌then◌else◌, inl, inr, ◌⊎◌, List, [], ◌∷◌, length, ℤ, pos, ◌+ℤ◌, ◌≤ℤ◌, int_lt}
use Rattle.std.proofs.lemmas.Int.{by_lt_z, ints}
use Rattle.std.proofs.lemmas.Bool.{cases_lt, cases_Bool}
use Rattle.std.proofs.lemmas.Bool.Decides.{nat_tests}
use Rattle.jiff_core.specs.declared.civil.date.Date.{Date}
use Rattle.jiff_core.specs.Date.{epoch_day}
use Rattle.jiff_core.specs.Calendar.{weekday_number}
use Rattle.jiff_core.proofs.SignedLemmas.{signed_arith}
use Rattle.jiff_core.proofs.CalendarLemmas.{weekday_number-add, weekday_number_bound}
use Rattle.determination_dates.specs.declared.deadline.TheConstants.{PETITION_DAYS}
use Rattle.determination_dates.specs.Closed.{is_closed, IsOpen}
use Rattle.determination_dates.specs.Deadlines.{IsDeadline}
use Rattle.determination_dates.specs.Computed.{is_open, first_open, search_days, deadline_day}

open_true : (closed : List Date) (z : ℤ) → is_open closed z ≡ true → IsOpen closed z
open_true closed z e = (grind (arith, nat_tests), grind (arith, nat_tests))

open_false : (closed : List Date) (z : ℤ) → is_open closed z ≡ false → ¬ IsOpen closed z
open_false closed z e h = grind (arith, nat_tests)

-- ---- closed days that lie ahead

-- how many of the days are the day z or a later one
ahead : List Date → ℤ → ℕ
ahead [] z = 0
ahead (c ∷ cs) z = if int_lt (epoch_day c) z then ahead cs z else suc (ahead cs z)

ahead_most : (closed : List Date) (z : ℤ) → ahead closed z ≤ length closed
unfolding ahead
ahead_most [] z = omega arith
ahead_most (c ∷ cs) z = let h = ahead_most cs z in grind (arith, h)

ahead_falls : (closed : List Date) (z w : ℤ) → z ≤ℤ w → ahead closed w ≤ ahead closed z
unfolding ahead
ahead_falls [] z w l = omega arith
ahead_falls (c ∷ cs) z w l = let h = ahead_falls cs z w l in grind (arith, ints, signed_arith, h)

ahead_closed : (closed : List Date) (z : ℤ) → is_closed closed z ≡ true → suc (ahead closed (z +ℤ pos 1)) ≤ ahead closed z
unfolding ahead
ahead_closed [] z e = absurd (cc (e))
ahead_closed (c ∷ cs) z e =
    let f = ahead_falls cs z (z +ℤ pos 1) (omega (arith, signed_arith)) in
    let h = ahead_closed cs z in
    grind (arith, ints, signed_arith, f, h)

-- ---- an open day comes soon

-- of three days running one is no Saturday and no Sunday
weekday_soon : (z : ℤ) → (k : ℕ) × (k < 3) × (weekday_number (z +ℤ pos k) < 5)
weekday_soon z =
    let b = weekday_number_bound z in
    let one = weekday_number-add z (z +ℤ pos 1) 1 (omega (arith, signed_arith)) in
    let two = weekday_number-add z (z +ℤ pos 2) 2 (omega (arith, signed_arith)) in
    let none : z +ℤ pos 0 ≡ z = omega (arith, signed_arith) in
    elim (cases_lt (weekday_number z) 5) [
      | inl lt ↦ (0, omega arith, rw none lt)
      | inr ge ↦ (2, omega arith, omega (arith, two, b, ge))
    ]

open_soon : (n : ℕ) (closed : List Date) (z : ℤ) → ahead closed z ≤ n → (k : ℕ) × (k < 3 * (n + 1)) × IsOpen closed (z +ℤ pos k)
open_soon zero closed z few =
    let w = weekday_soon z in
    elim (cases_Bool (is_closed closed (z +ℤ pos w.0))) [
      | inr e ↦ (w.0, omega (arith, w.1), (w.2, e))
      | inl e ↦ absurd (omega (arith, few, ahead_closed closed (z +ℤ pos w.0) e, ahead_falls closed z (z +ℤ pos w.0) (omega (arith, signed_arith))))
    ]
open_soon (suc n) closed z few =
    let w = weekday_soon z in
    let falls = ahead_falls closed z (z +ℤ pos w.0) (omega (arith, signed_arith)) in
    elim (cases_Bool (is_closed closed (z +ℤ pos w.0))) [
      | inr e ↦ (w.0, omega (arith, w.1), (w.2, e))
      | inl e ↦
          let r = open_soon n closed (z +ℤ pos w.0 +ℤ pos 1) (omega (arith, few, falls, ahead_closed closed (z +ℤ pos w.0) e)) in
          let same : z +ℤ pos w.0 +ℤ pos 1 +ℤ pos r.0 ≡ z +ℤ pos (w.0 + 1 + r.0) = omega (arith, signed_arith) in
          (w.0 + 1 + r.0, omega (arith, r.1, w.1), rw same at r.2)
    ]

-- ---- the search

record IsFound (k : ℕ) (closed : List Date) (z y : ℤ) : Type 0 where
  low : z ≤ℤ y
  least : (x : ℤ) → z ≤ℤ x → IsOpen closed x → y ≤ℤ x
  opens : IsOpen closed y ⊎ (y ≡ z +ℤ pos k)

open_step : (k : ℕ) (closed : List Date) (z more : ℤ) (b : Bool) → is_open closed z ≡ b → IsFound k closed (z +ℤ pos 1) more → IsFound (suc k) closed z (if b then z else more)
open_step k closed z more true h r = record { low = omega (arith, signed_arith); least = λ x l o. l; opens = inl (open_true closed z h) }
open_step k closed z more false h r =
    record {
      low = omega (arith, signed_arith, r.low);
      least = λ x l o. by_lt_z z x (λ lt. r.least x (omega (arith, signed_arith, lt)) o)
          (λ ge. let e : x ≡ z = omega (arith, signed_arith, l, ge) in absurd (open_false closed z h (subst (IsOpen closed) e o)));
      opens = further r.opens;
    }
  where
    further : IsOpen closed more ⊎ (more ≡ (z +ℤ pos 1) +ℤ pos k) → IsOpen closed more ⊎ (more ≡ z +ℤ pos (suc k))
    further (inl o) = inl o
    further (inr e) = inr (omega (arith, signed_arith, e))

open_walk : (k : ℕ) (closed : List Date) (z : ℤ) → IsFound k closed z (first_open k closed z)
open_walk zero closed z = record { low = omega (arith, signed_arith); least = λ x l o. l; opens = inr (omega (arith, signed_arith)) }
open_walk (suc k) closed z = open_step k closed z (first_open k closed (z +ℤ pos 1)) _ refl (open_walk k closed (z +ℤ pos 1))

-- what is found is open, since an open day comes within the search
found_open : (k : ℕ) (closed : List Date) (z y : ℤ) → IsFound k closed z y → (m : ℕ) → m < k → IsOpen closed (z +ℤ pos m) → IsOpen closed y
found_open k closed z y f m short o = by_opens f.opens
  where
    by_opens : IsOpen closed y ⊎ (y ≡ z +ℤ pos k) → IsOpen closed y
    by_opens (inl here) = here
    by_opens (inr e) = absurd (omega (arith, signed_arith, e, short, f.least (z +ℤ pos m) (omega (arith, signed_arith)) o))

pub deadline_is : (closed : List Date) (issued : ℤ) → IsDeadline closed issued (deadline_day closed issued)
deadline_is closed issued =
    let from = issued +ℤ PETITION_DAYS in
    let f = open_walk (search_days closed) closed from in
    let s = open_soon (length closed) closed from (ahead_most closed from) in
    record { later = f.low; is_open = found_open (search_days closed) closed from _ f s.0 s.1 s.2; least = f.least }
