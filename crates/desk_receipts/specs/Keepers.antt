-- A keeper after calls of it.
use Rattle.std.specs.Prelude.{◌≡◌, ℕ, ◌≤◌, List, Option}
use Rattle.oe_keeper.specs.Kept.{Kept}
use Rattle.oe_keeper.specs.Keeping.{Rose, Stays}

-- a later state of a keeper: one that never fails stays so, and the count of faults never falls
pub record IsLater {K : Type 0} (IsSteady : K → Type 0) (faults : K → ℕ) (old new : K) : Type 0 where
  pub steady : IsSteady old → IsSteady new
  pub counted : faults old ≤ faults new

-- it failed: it was not one that never fails, and its count of faults rose
pub record HasFailed {K : Type 0} (IsSteady : K → Type 0) (faults : K → ℕ) (old new : K) : Type 0 where
  pub unsteady : IsSteady old → ⊥
  pub rose : Rose (faults old) (faults new)

-- a load found these rows at a place: where its rows are known afterwards, they are these, and where they were known before too, they have
-- not changed
pub record HasLoaded {K : Type 0} (Tells : K → Kept → Type 0) (Finds : K → Option (List ℕ) → Kept → Type 0) (old : K) (path : Option (List ℕ)) (rows : Kept) (new : K) : Type 0 where
  pub found : Finds old path rows
  pub told : (now : Kept) → Tells new now → now ≡ rows
  pub stays : Stays Tells old new
