-- A keeper whose rows of an older format are brought to that of today.
use Rattle.std.specs.Prelude.{◌≡◌, ◌≢◌, ℕ, List, []}
use Rattle.oe_keeper.specs.Kept.{Kept}
use Rattle.oe_keeper.specs.Keeping.{HasAll, StaysSilent}
use Rattle.oe_keeper.specs.declared.change.RowChange.{RowChange}
use Rattle.desk_receipts.specs.Keepers.{HasFailed}
use Rattle.desk_receipts.specs.declared.renewal.OpenRefusal.{OpenRefusal}
use Rattle.desk_receipts.specs.declared.renewal.OpenRefusal.TheVariants.{KeeperFault, BadRow, NoMemory}

-- the keeper after these changes were made, as one list; where there are none it was not asked
pub record HasRenewed {K : Type 0} (Tells : K → Kept → Type 0) (changes : List RowChange) (old new : K) : Type 0 where
  pub made : changes ≢ [] → HasAll Tells old new changes
  pub same : changes ≡ [] → new ≡ old
  pub silent : StaysSilent Tells old new

-- why they could not be made: the keeper failed, or memory ran out
abbrev pub StopsRenewal : {K : Type 0} → (K → Type 0) → (K → ℕ) → K → K → OpenRefusal → Type 0
StopsRenewal IsSteady faults old new KeeperFault = HasFailed IsSteady faults old new
StopsRenewal IsSteady faults old new (BadRow table key) = ⊥
StopsRenewal IsSteady faults old new NoMemory = Unit {0}
