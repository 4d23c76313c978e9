-- The closed days with one more are a set of closed days.
use Rattle.std.proofs.Common.{◌≡◌, refl, ap, ◌∙◌, List, [], ◌∷◌}
use Rattle.std.specs.List.{AllByRecursion}
use Rattle.std.specs.List.Sorted.{IsStrictlySortedBy}
use Rattle.std.specs.Cmp.{IsTotalOrder}
use Rattle.std.specs.Ordering.{match_ordering, ordering_reverse}
use Rattle.std.specs.declared.cmp.Ordering.TheVariants.{Less, Equal, Greater}
use Rattle.std.proofs.lemmas.Cmp.{on_total, int_cmp_total}
use Rattle.std.proofs.lemmas.List.Elements.{All-nil}
use Rattle.std.proofs.lemmas.Map.Views.{All-insert_key}
use Rattle.jiff_core.specs.declared.civil.date.Date.{Date}
use Rattle.jiff_core.specs.Date.{epoch_day}
use Rattle.determination_dates.specs.Days.{IsLimited}
use Rattle.determination_dates.specs.Closed.{date_cmp, with_day, AreClosedDays}

in_order : IsTotalOrder date_cmp
in_order = on_total epoch_day int_cmp_total

abbrev AreAfter : Date → List Date → Type 0
AreAfter d days = AllByRecursion (λ y. date_cmp d y ≡ Less) days

-- what is after one day is after an earlier one
after_too : (d c : Date) (days : List Date) → date_cmp d c ≡ Less → AreAfter c days → AreAfter d days
after_too d c [] h all = tt
after_too d c (y ∷ days) h all = (in_order.trans d c y h all.0, after_too d c days h all.1)

after_more : (x d : Date) (days : List Date) → date_cmp x d ≡ Less → AreAfter x days → AreAfter x (with_day d days)
after_more x d [] h all = (h, tt)
after_more x d (c ∷ days) h all =
    elim (date_cmp d c) as (λ o. AreAfter x (match_ordering o (d ∷ c ∷ days) (c ∷ days) (c ∷ with_day d days))) [
      | Less ↦ (h, all)
      | Equal ↦ all
      | Greater ↦ (all.0, after_more x d days h all.1)
    ]

rising_more : (d : Date) (days : List Date) → IsStrictlySortedBy date_cmp days → IsStrictlySortedBy date_cmp (with_day d days)
unfolding IsStrictlySortedBy
rising_more d [] h = (tt, tt)
rising_more d (c ∷ days) h =
    elim (date_cmp d c) as (λ o. date_cmp d c ≡ o → IsStrictlySortedBy date_cmp (match_ordering o (d ∷ c ∷ days) (c ∷ days) (c ∷ with_day d days))) [
      | Less ↦ λ e. ((e, after_too d c days e h.0), h)
      | Equal ↦ λ e. h
      | Greater ↦ λ e. (after_more c d days (in_order.antisymm c d ∙ ap ordering_reverse e) h.0, rising_more d days h.1)
    ] refl

pub closed_more : (d : Date) (days : List Date) → IsLimited d → AreClosedDays days → AreClosedDays (with_day d days)
closed_more d days k h = record { rising = rising_more d days h.rising; limited = All-insert_key date_cmp d IsLimited days h.limited k }

none_rising : IsStrictlySortedBy date_cmp []
unfolding IsStrictlySortedBy
none_rising = tt

pub none_closed : AreClosedDays []
none_closed = record { rising = none_rising; limited = All-nil IsLimited }
