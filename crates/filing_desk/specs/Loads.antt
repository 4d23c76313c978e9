-- Opening a clerk, and why it fails.
use Rattle.std.specs.Prelude.{◌≡◌, ℕ, List, [], Option}
use Rattle.oe_keeper.specs.Kept.{Kept, place}
use Rattle.desk_tables.specs.Opening.{Opens, IsFirstBad, renewal}
use Rattle.filing_desk.specs.Clerks.{Clerking}
use Rattle.desk_receipts.specs.Renewals.{HasRenewed}
use Rattle.desk_receipts.specs.Keepers.{IsLater, HasFailed, HasLoaded}
use Rattle.desk_receipts.specs.declared.renewal.OpenRefusal.{OpenRefusal}
use Rattle.desk_receipts.specs.declared.renewal.OpenRefusal.TheVariants.{KeeperFault, BadRow, NoMemory}

-- a clerk of the desk whose rows a load of the keeper finds at a place; nothing was accepted yet
pub record IsOpened {K : Type 0} (Tells : K → Kept → Type 0) (Finds : K → Option (List ℕ) → Kept → Type 0) (IsSteady : K → Type 0) (faults : K → ℕ)
    (keeper : K) (path : Option (List ℕ)) (clerk : Clerking K) : Type 0 where
  pub kept : Kept
  -- the keeper after the load, and then the clerk's
  pub between : K
  pub loaded : HasLoaded Tells Finds keeper path kept between
  pub renewed : HasRenewed Tells (renewal kept) between clerk.keeper
  pub later : IsLater IsSteady faults keeper clerk.keeper
  pub opens : Opens kept clerk.state
  pub accepted : clerk.accepted ≡ []

-- the row in the error, if there is one, is the first bad one of these
abbrev pub NamesBadRow : Kept → OpenRefusal → Type 0
NamesBadRow kept KeeperFault = ⊥
NamesBadRow kept (BadRow table key) = IsFirstBad kept (place table, key)
NamesBadRow kept NoMemory = Unit {0}

-- why opening failed: the keeper may fail, as one with a higher count can come of it; or a row is the first bad one of those that a load of it finds; or memory ran out. The keeper is gone then,
-- so this does not say that it failed in the load or in the change after it, only that one which never fails is not said to have failed
abbrev pub HasOpenCause : {K : Type 0} → (K → Kept → Type 0) → (K → Option (List ℕ) → Kept → Type 0) → (K → Type 0) → (K → ℕ)
    → K → Option (List ℕ) → OpenRefusal → Type 0
HasOpenCause {K} Tells Finds IsSteady faults keeper path KeeperFault = (after : K) × IsLater IsSteady faults keeper after × HasFailed IsSteady faults keeper after
HasOpenCause {K} Tells Finds IsSteady faults keeper path (BadRow table key) =
    (kept : Kept) × (after : K) × HasLoaded Tells Finds keeper path kept after × IsFirstBad kept (place table, key)
HasOpenCause {K} Tells Finds IsSteady faults keeper path NoMemory = Unit {0}
