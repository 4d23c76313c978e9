-- What is handed to the keeper.
use Rattle.std.proofs.Common.{◌≡◌, ◌≢◌, refl, sym, ap, subst, arith, ℕ, Bool, true, false, ◌||◌, List, [], ◌∷◌, ℤ, Err}
use Rattle.std.proofs.Math.Logic.{∥∥₁_elim, ∥∥₁_map, ∥∥₁_prop}
use Rattle.std.specs.List.{AllByRecursion}
use Rattle.std.specs.List.Sorted.{IsStrictlySortedBy}
use Rattle.std.specs.Cmp.{int_cmp_total}
use Rattle.std.specs.Ordering.{int_cmp, int_eq, is_eq, match_ordering}
use Rattle.std.specs.declared.cmp.Ordering.TheVariants.{Less, Equal, Greater}
use Rattle.jiff_core.specs.declared.civil.date.Date.{Date}
use Rattle.jiff_core.specs.Date.{epoch_day}
use Rattle.determination_dates.specs.Closed.{date_cmp, is_closed, with_day}
use Rattle.oe_keeper.specs.Kept.{Kept}
use Rattle.oe_keeper.specs.Keeping.{Stays, StaysSilent, HasAll}
use Rattle.oe_keeper.specs.declared.change.RowChange.{RowChange}
use Rattle.case_records.specs.declared.refusal.Refusal.{Refusal}
use Rattle.case_records.specs.declared.refusal.Refusal.TheVariants as refusals
use Rattle.desk_machine.specs.States.{State}
use Rattle.desk_tables.specs.Rows.{AreRows}
use Rattle.desk_receipts.specs.Keepers.{IsLater}
use Rattle.desk_receipts.specs.Handed.{Told, Carry, Handed}

-- the keeper was not asked
pub as_before : {K : Type 0} (IsSteady : K → Type 0) (faults : K → ℕ) (k : K) → IsLater IsSteady faults k k
as_before IsSteady faults k = record { steady = λ s. s; counted = omega arith }

module _ {K : Type 0} (Tells : K → Kept → Type 0) (IsLoaded : K → Type 0) (IsSteady : K → Type 0) (faults : K → ℕ) where
  pub unasked : {T : Type 0} (k : K) (changes : List RowChange) (why : Refusal) → ∥ IsLoaded k ∥₁ → why ≢ refusals.KeeperFault → Handed {K = K} {T = T} Tells IsLoaded IsSteady faults k k changes (Err why)
  unasked k changes why loaded other = record { done = tt; undone = λ s h. h; loaded = loaded; later = as_before IsSteady faults k; cause = λ e. absurd (other e) }

module _ {K : Type 0} (Tells : K → Kept → Type 0) (old new : K) where
  -- it made all changes
  pub told_on : (changes : List RowChange) → StaysSilent Tells old new → HasAll Tells old new changes → (s t : State) → Carry Tells old s changes t → Told Tells old s → Told Tells new t
  unfolding Told Carry
  told_on changes silent all s t carry told now is =
      ∥∥₁_elim (silent now is) ∥∥₁_prop (λ b. ∥∥₁_map (told b.0 b.1) (λ are. subst (λ (rows : Kept). AreRows t rows) (sym (all b.0 now b.1 is)) (carry b.0 b.1 are)))

  -- it made none
  pub told_still : StaysSilent Tells old new → Stays Tells old new → (s : State) → Told Tells old s → Told Tells new s
  unfolding Told
  told_still silent stays s told now is =
      ∥∥₁_elim (silent now is) ∥∥₁_prop (λ b. ∥∥₁_map (told b.0 b.1) (λ are. subst (λ (rows : Kept). AreRows s rows) (sym (stays b.0 now b.1 is)) are))

-- ---- a day that is closed already

or_right : (a b : Bool) → (a || b) ≡ true → a ≡ false → b ≡ true
or_right a b h n = grind (arith, h, n)

-- a day before all of these is none of them
none_before : (d : Date) (closed : List Date) → AllByRecursion (λ c. date_cmp d c ≡ Less) closed → is_closed closed (epoch_day d) ≡ false
none_before d [] h = refl
none_before d (c ∷ cs) h = rw (ap is_eq h.0) (none_before d cs h.1)

later_still : (a b : ℤ) (c : ℤ) → int_cmp a b ≡ Less → int_cmp b c ≡ Less → int_cmp a c ≡ Less
later_still a b c p q = int_cmp_total.trans a b c p q

all_later : (d c : Date) (cs : List Date) → date_cmp d c ≡ Less → AllByRecursion (λ x. date_cmp c x ≡ Less) cs → AllByRecursion (λ x. date_cmp d x ≡ Less) cs
all_later d c [] p h = tt
all_later d c (x ∷ xs) p h = (later_still (epoch_day d) (epoch_day c) (epoch_day x) p h.0, all_later d c xs p h.1)

pub closed_already : (d : Date) (closed : List Date) → IsStrictlySortedBy date_cmp closed → is_closed closed (epoch_day d) ≡ true → closed ≡ with_day d closed
unfolding IsStrictlySortedBy
closed_already d [] rising is = absurd (cc (is))
closed_already d (c ∷ cs) rising is =
    elim (int_cmp (epoch_day d) (epoch_day c)) as (λ o. int_cmp (epoch_day d) (epoch_day c) ≡ o → c ∷ cs ≡ match_ordering o (d ∷ c ∷ cs) (c ∷ cs) (c ∷ with_day d cs)) [
      | Less ↦ λ e. absurd (cc (or_right (int_eq (epoch_day d) (epoch_day c)) (is_closed cs (epoch_day d)) is (ap is_eq e), none_before d cs (all_later d c cs e rising.0)))
      | Equal ↦ λ e. refl
      | Greater ↦ λ e. ap (λ (l : List Date). c ∷ l) (closed_already d cs rising.1 (or_right (int_eq (epoch_day d) (epoch_day c)) (is_closed cs (epoch_day d)) is (ap is_eq e)))
    ] refl
