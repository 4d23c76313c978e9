-- Sets of closed days.
use Rattle.std.proofs.Common.{◌≡◌, refl, sym, ap, ◌∙◌, subst, List, [], ◌∷◌, All, Bool, true, false, ℤ}
use Rattle.std.specs.Prelude.{◌||◌}
use Rattle.std.specs.List.{AllByRecursion}
use Rattle.std.specs.List.Sorted.{IsStrictlySortedBy}
use Rattle.std.specs.Cmp.{IsTotalOrder, int_cmp_total}
use Rattle.std.specs.Ordering.{int_eq, is_eq, ordering_reverse}
use Rattle.std.specs.declared.cmp.Ordering.TheVariants.{Less, Equal, Greater}
use Rattle.std.proofs.lemmas.Bool.Decides.{Decides-int_eq}
use Rattle.std.proofs.lemmas.List.Elements.{All-head, All-tail}
use Rattle.jiff_core.specs.declared.civil.date.Date.{Date}
use Rattle.jiff_core.specs.Date.{epoch_day}
use Rattle.jiff.proofs.Family.{same_date}
use Rattle.determination_dates.specs.Days.{IsLimited}
use Rattle.determination_dates.specs.Closed.{AreClosedDays, date_cmp, is_closed}

abbrev Precedes : Date → Date → Type 0
Precedes d c = date_cmp d c ≡ Less

turned : (d c : Date) → date_cmp d c ≡ Greater → Precedes c d
turned d c e = IsTotalOrder.antisymm int_cmp_total (epoch_day c) (epoch_day d) ∙ ap ordering_reverse e

precede_all : (d c : Date) (cs : List Date) → Precedes d c → AllByRecursion (Precedes c) cs → AllByRecursion (Precedes d) cs
precede_all d c [] p h = tt
precede_all d c (x ∷ xs) p h = (IsTotalOrder.trans int_cmp_total (epoch_day d) (epoch_day c) (epoch_day x) p h.0, precede_all d c xs p h.1)

-- ---- sets with the same days

none_before : (d : Date) (cs : List Date) → AllByRecursion (Precedes d) cs → is_closed cs (epoch_day d) ≡ false
none_before d [] h = refl
none_before d (c ∷ cs) h = rw (ap is_eq h.0) (none_before d cs h.1)

itself : (z : ℤ) → int_eq z z ≡ true
itself z = (Decides-int_eq z z).1 refl

pub has_first : (d : Date) (cs : List Date) → is_closed (d ∷ cs) (epoch_day d) ≡ true
has_first d cs = ap (λ b. b || is_closed cs (epoch_day d)) (itself (epoch_day d))

other_rest : (a : Date) (xs ys : List Date) (d : Date) (b : Bool) → int_eq (epoch_day d) (epoch_day a) ≡ b → AllByRecursion (Precedes a) xs
    → AllByRecursion (Precedes a) ys
    → (b || is_closed xs (epoch_day d)) ≡ (b || is_closed ys (epoch_day d)) → is_closed xs (epoch_day d) ≡ is_closed ys (epoch_day d)
other_rest a xs ys d true e h k same =
    let day : epoch_day d ≡ epoch_day a = (Decides-int_eq (epoch_day d) (epoch_day a)).0 e in
    ap (is_closed xs) day ∙ none_before a xs h ∙ sym (ap (is_closed ys) day ∙ none_before a ys k)
other_rest a xs ys d false e h k same = same

abbrev HaveSameDays : List Date → List Date → Type 0
HaveSameDays xs ys = (d : Date) → IsLimited d → is_closed xs (epoch_day d) ≡ is_closed ys (epoch_day d)

same_rising : (xs ys : List Date) → IsStrictlySortedBy date_cmp xs → IsStrictlySortedBy date_cmp ys → All IsLimited xs → All IsLimited ys → HaveSameDays xs ys
    → xs ≡ ys
unfolding IsStrictlySortedBy
same_rising [] [] h k l m same = refl
same_rising [] (b ∷ ys) h k l m same = absurd (cc (same b (All-head IsLimited b ys m), has_first b ys))
same_rising (a ∷ xs) [] h k l m same = absurd (cc (same a (All-head IsLimited a xs l), has_first a xs))
same_rising (a ∷ xs) (b ∷ ys) h k l m same =
    elim (date_cmp a b) as (λ o. date_cmp a b ≡ o → a ∷ xs ≡ b ∷ ys) [
      | Less ↦ λ e. absurd (cc (same a (All-head IsLimited a xs l), has_first a xs, none_before a (b ∷ ys) (e, precede_all a b ys e k.0)))
      | Equal ↦ λ e. (let day : a ≡ b = same_date a b ((Decides-int_eq (epoch_day a) (epoch_day b)).0 (ap is_eq e)) in
          let after : AllByRecursion (Precedes a) ys = subst (λ c. AllByRecursion (Precedes c) ys) (sym day) k.0 in
          let here : HaveSameDays (a ∷ xs) (a ∷ ys) = subst (λ c. HaveSameDays (a ∷ xs) (c ∷ ys)) (sym day) same in
          let rest : xs ≡ ys = same_rising xs ys h.1 k.1 (All-tail IsLimited a xs l) (All-tail IsLimited b ys m)
          (λ d limited. other_rest a xs ys d (int_eq (epoch_day d) (epoch_day a)) refl h.0 after (here d limited)) in
          λ i. day i ∷ rest i)
      | Greater ↦ λ e. absurd (cc (
        same b (All-head IsLimited b ys m),
        has_first b ys,
        none_before b (a ∷ xs) (turned a b e, precede_all b a xs (turned a b e) h.0),
      ))
    ] refl

pub same_closed_days : (xs ys : List Date) → AreClosedDays xs → AreClosedDays ys → HaveSameDays xs ys → xs ≡ ys
same_closed_days xs ys h k same = same_rising xs ys h.rising k.rising h.limited k.limited same

-- a day that is closed is one of the closed days
closed_by : (z : ℤ) (c : Date) (b : Bool) (rest : Bool) → int_eq z (epoch_day c) ≡ b → (b || rest) ≡ true → IsLimited c
    → (rest ≡ true → (x : Date) × (epoch_day x ≡ z) × IsLimited x)
    → (x : Date) × (epoch_day x ≡ z) × IsLimited x
closed_by z c true rest e is limited more = (c, sym ((Decides-int_eq z (epoch_day c)).0 e), limited)
closed_by z c false rest e is limited more = more is

closed_one : (z : ℤ) (closed : List Date) → All IsLimited closed → is_closed closed z ≡ true → (x : Date) × (epoch_day x ≡ z) × IsLimited x
closed_one z [] h is = absurd (cc (is))
closed_one z (c ∷ cs) h is =
    closed_by z c (int_eq z (epoch_day c)) (is_closed cs z) refl is (All-head IsLimited c cs h) (λ rest. closed_one z cs (All-tail IsLimited c cs h) rest)

pub closed_limited : (d : Date) (closed : List Date) → All IsLimited closed → is_closed closed (epoch_day d) ≡ true → IsLimited d
closed_limited d closed h is = let one = closed_one (epoch_day d) closed h is in subst IsLimited (same_date one.0 d one.1) one.2
