-- A set of closed days with one more.
use Rattle.std.proofs.Common.{◌≡◌, refl, sym, ap, arith, Bool, true, false, true≢false, ◌∙◌, ◌||◌, List, [], ◌∷◌, ℤ, Result, Ok, Err, OnOk, OnErr}
use Rattle.std.specs.List.{All}
use Rattle.std.specs.Ordering.{int_eq, int_cmp, is_eq, match_ordering}
use Rattle.std.specs.declared.cmp.Ordering.{Ordering}
use Rattle.std.specs.declared.cmp.Ordering.TheVariants.{Less, Equal, Greater}
use Rattle.std.specs.BTreeSet.{insert_key}
use Rattle.std.proofs.lemmas.Bool.Decides.{Decides-int_eq}
use Rattle.std.proofs.lemmas.Map.Views.{All-insert_key, All-remove_key}
use Rattle.jiff_core.specs.declared.civil.date.Date.{Date}
use Rattle.jiff_core.specs.Date.{epoch_day}
use Rattle.determination_dates.specs.Days.{IsLimited}
use Rattle.determination_dates.specs.Closed.{is_closed, with_day, without_day}

-- whether the day was added or refused, all days are within the limit
pub limited_after : {T E : Type 0} (r : Result T E) (cmp : Date → Date → Ordering) (d : Date) (before after : List Date) → All IsLimited before → IsLimited d
    → OnOk r (after ≡ insert_key cmp before d) → OnErr r (after ≡ before) → All IsLimited after
limited_after (Ok x) cmp d before after h k e f = rw e (All-insert_key cmp d IsLimited before h k)
limited_after (Err x) cmp d before after h k e f = rw f h

-- ---- which days are closed then

or_swap : (a b c : Bool) → (a || (b || c)) ≡ (b || (a || c))
or_swap a b c = grind arith

or_same : (a b : Bool) → (a || (a || b)) ≡ (a || b)
or_same a b = grind arith

-- days that compare equal are the same
same_day : (a b : ℤ) → int_cmp a b ≡ Equal → a ≡ b
same_day a b e = (Decides-int_eq a b).0 (ap is_eq e)

pub closed_with : (d : Date) (closed : List Date) (z : ℤ) → is_closed (with_day d closed) z ≡ (int_eq z (epoch_day d) || is_closed closed z)
closed_with d [] z = refl
closed_with d (c ∷ cs) z =
    elim (int_cmp (epoch_day d) (epoch_day c)) as (λ o. int_cmp (epoch_day d) (epoch_day c) ≡ o → is_closed (match_ordering o (d ∷ c ∷ cs) (c ∷ cs) (c ∷ with_day d cs)) z ≡ (int_eq z (epoch_day d) || (int_eq z (epoch_day c) || is_closed cs z))) [
      | Less ↦ λ _. refl
      | Equal ↦ λ e. rw (same_day (epoch_day d) (epoch_day c) e) (sym (or_same (int_eq z (epoch_day c)) (is_closed cs z)))
      | Greater ↦ λ e. rw (closed_with d cs z) (or_swap (int_eq z (epoch_day c)) (int_eq z (epoch_day d)) (is_closed cs z))
    ] refl

-- ---- a day that was not closed, put in and taken out

itself : (z : ℤ) → is_eq (int_cmp z z) ≡ true
itself z = (Decides-int_eq z z).1 refl

or_right : (a b : Bool) → (a || b) ≡ false → b ≡ false
or_right a b e = grind arith

or_left : (a b : Bool) → (a || b) ≡ false → a ≡ false
or_left a b e = grind arith

pub without_with : (d : Date) (before : List Date) → is_closed before (epoch_day d) ≡ false → without_day d (with_day d before) ≡ before
without_with d [] h = rw (itself (epoch_day d)) refl
without_with d (c ∷ cs) h =
    elim (int_cmp (epoch_day d) (epoch_day c)) as (λ o. int_cmp (epoch_day d) (epoch_day c) ≡ o → without_day d (match_ordering o (d ∷ c ∷ cs) (c ∷ cs) (c ∷ with_day d cs)) ≡ c ∷ cs) [
      | Less ↦ λ _. rw (itself (epoch_day d)) refl
      | Equal ↦ λ e. absurd (true≢false (sym (ap is_eq e) ∙ or_left (is_eq (int_cmp (epoch_day d) (epoch_day c))) (is_closed cs (epoch_day d)) h))
      | Greater ↦ λ e. rw (ap is_eq e) (ap (λ l. c ∷ l) (without_with d cs (or_right (int_eq (epoch_day d) (epoch_day c)) (is_closed cs (epoch_day d)) h)))
    ] refl

pub limited_without : (d : Date) (closed : List Date) → All IsLimited closed → All IsLimited (without_day d closed)
limited_without d closed h = All-remove_key _ IsLimited closed h
