-- What a clerk is opened as, by what was read.
use Rattle.std.proofs.Common.{◌≡◌, refl, sym, ap, ◌∙◌, subst, arith, ℕ, ◌≤◌, List, [], ◌∷◌, Option}
use Rattle.std.proofs.Math.Logic.{∥∥₁_elim, ∥∥₁_prop}
use Rattle.oe_keeper.specs.Kept.{Kept, rows_after_changes}
use Rattle.oe_keeper.specs.Keeping.{Rose}
use Rattle.oe_keeper.specs.declared.change.RowChange.{RowChange}
use Rattle.desk_machine.specs.States.{State}
use Rattle.desk_tables.specs.Opening.{renewal, renewed}
use Rattle.desk_tables.specs.Rows.{AreRows}
use Rattle.desk_receipts.specs.Handed.{Told}
use Rattle.desk_receipts.specs.Keepers.{HasLoaded, IsLater}
use Rattle.desk_receipts.specs.Renewals.{HasRenewed, StopsRenewal}
use Rattle.filing_desk.specs.Loads.{HasOpenCause, NamesBadRow}
use Rattle.desk_receipts.specs.declared.renewal.OpenRefusal.{OpenRefusal}
use Rattle.desk_receipts.specs.declared.renewal.OpenRefusal.TheVariants as refusals

module _ {K : Type 0} (Tells : K → Kept → Type 0) (kept : Kept) (between after : K) (s : State) (loaded : (now : Kept) → Tells between now → now ≡ kept)
    (h : HasRenewed Tells (renewal kept) between after) (are : AreRows s (renewed kept)) where
  now_by : (changes : List RowChange) → renewal kept ≡ changes → (mid now : Kept) → Tells between mid → Tells after now → now ≡ renewed kept
  now_by [] e mid now m n =
      loaded now (subst (λ k. Tells k now) (h.same e) n) ∙ sym (ap (λ (changes : List RowChange). rows_after_changes kept changes) e)
  now_by (c ∷ rest) e mid now m n =
      h.made (λ (none : renewal kept ≡ []). absurd (cc (e, none))) mid now m n ∙ ap (λ (rows : Kept). rows_after_changes rows (renewal kept)) (loaded mid m)

  -- the rows, where known, are those of the state
  pub told_renewed : Told Tells after s
  unfolding Told
  told_renewed now is =
      ∥∥₁_elim (h.silent now is) ∥∥₁_prop
      (λ b. ∣ subst (λ (rows : Kept). AreRows s rows) (sym (now_by (renewal kept) refl b.0 now b.1 is)) are ∣₁)

rose_since : (a b n : ℕ) → a ≤ b → Rose b n → Rose a n
rose_since a b n l rose = omega (arith, l, rose)

module _ {K : Type 0} (Tells : K → Kept → Type 0) (Finds : K → Option (List ℕ) → Kept → Type 0) (IsSteady : K → Type 0) (faults : K → ℕ) (keeper : K) (path : Option (List ℕ)) where
  pub later_twice : (between after : K) → IsLater IsSteady faults keeper between → IsLater IsSteady faults between after → IsLater IsSteady faults keeper after
  later_twice between after l m = record { steady = λ s. m.steady (l.steady s); counted = omega (arith, l.counted, m.counted) }

  pub bad_found : (kept : Kept) (after : K) → HasLoaded Tells Finds keeper path kept after → (why : OpenRefusal) → NamesBadRow kept why
      → HasOpenCause Tells Finds IsSteady faults keeper path why
  bad_found kept after loaded refusals.KeeperFault h = absurd h
  bad_found kept after loaded (refusals.BadRow table key) h = (kept, after, loaded, h)
  bad_found kept after loaded refusals.NoMemory h = tt

  -- the change after the load failed
  pub not_renewed : (between after : K) → IsLater IsSteady faults keeper between → IsLater IsSteady faults between after → (why : OpenRefusal)
      → StopsRenewal IsSteady faults between after why → HasOpenCause Tells Finds IsSteady faults keeper path why
  not_renewed between after l m refusals.KeeperFault h = (
    after,
    later_twice between after l m,
    record { unsteady = λ s. h.unsteady (l.steady s); rose = rose_since (faults keeper) (faults between) (faults after) l.counted h.rose },
  )
  not_renewed between after l m (refusals.BadRow table key) h = absurd h
  not_renewed between after l m refusals.NoMemory h = tt
