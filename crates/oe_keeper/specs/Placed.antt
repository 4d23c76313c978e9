-- A keeper that is used or not.
use Rattle.std.specs.Prelude.{◌≡◌, ℕ, Bool, true, false, IsTrue, List, Option, Some, None}
use Rattle.std.specs.FinMap as map
use Rattle.oe_keeper.specs.Kept.{Kept}

-- it is used, and these are its known rows
abbrev pub TellsWhere : {K : Type 0} → (K → Kept → Type 0) → Bool → K → Kept → Type 0
TellsWhere Tells is_used k rows = IsTrue is_used × Tells k rows

-- where it is used, it was loaded
abbrev pub IsLoadedWhere : {K : Type 0} → (K → Type 0) → Bool → K → Type 0
IsLoadedWhere IsLoaded is_used k = IsTrue is_used → IsLoaded k

-- where it is used or a place is named, a load finds the stored rows, and else no rows
abbrev pub FindsWhere : {K : Type 0} → (K → Option (List ℕ) → Kept → Type 0) → Bool → K → Option (List ℕ) → Kept → Type 0
FindsWhere Finds true k place rows = Finds k place rows
FindsWhere Finds false k (Some path) rows = Finds k (Some path) rows
FindsWhere Finds false k None rows = rows ≡ map.empty
