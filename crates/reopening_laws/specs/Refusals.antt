-- Reopening a clerk, and its errors.
use Rattle.std.specs.Prelude.{◌⊎◌, ℕ, List, Option}
use Rattle.oe_keeper.specs.Kept.{Kept}
use Rattle.desk_receipts.specs.Keepers.{HasLoaded}
use Rattle.desk_receipts.specs.declared.renewal.OpenRefusal.{OpenRefusal}
use Rattle.desk_receipts.specs.declared.renewal.OpenRefusal.TheVariants.{KeeperFault, BadRow, NoMemory}

-- the rows that a load finds are those of the keeper: it can find no others, or its rows are known before the load and after it
abbrev pub StillTells : {K : Type 0} → (K → Kept → Type 0) → (K → Option (List ℕ) → Kept → Type 0) → K → Option (List ℕ) → K → Type 0
StillTells Tells Finds before path after = ((rows : Kept) → Finds before path rows → Tells before rows) ⊎ ((told now : Kept) × Tells before told × Tells after now)

-- a row is named as bad only where the load was not of the keeper's own rows, as far as they are known
abbrev pub IsNoBadRow : {K : Type 0} → (K → Kept → Type 0) → (K → Option (List ℕ) → Kept → Type 0) → K → Option (List ℕ) → OpenRefusal → Type 0
IsNoBadRow Tells Finds before path KeeperFault = Unit {0}
IsNoBadRow {K} Tells Finds before path (BadRow table key) =
    (rows : Kept) × (after : K) × HasLoaded Tells Finds before path rows after × (StillTells Tells Finds before path after → ⊥)
IsNoBadRow Tells Finds before path NoMemory = Unit {0}
