-- The keeper's rows and the desk's state.
use Rattle.std.specs.Prelude.{◌≡◌, ◌≢◌, ℕ, List, Result, OnOk, OnErr, IfErr, None}
use Rattle.oe_keeper.specs.Kept.{Kept, rows_after_changes}
use Rattle.oe_keeper.specs.declared.change.RowChange.{RowChange}
use Rattle.case_records.specs.declared.refusal.Refusal.{Refusal}
use Rattle.case_records.specs.declared.refusal.Refusal.TheVariants as refusals
use Rattle.desk_machine.specs.declared.entry.Entry.{Entry}
use Rattle.desk_machine.specs.States.{State, entry_of}
use Rattle.desk_tables.specs.Rows.{AreRows}
use Rattle.desk_receipts.specs.Keepers.{IsLater, HasFailed}

-- the keeper's rows, where known, are those of the state
unfoldable pub Told : {K : Type 0} → (K → Kept → Type 0) → K → State → Type 0
Told Tells k s = (rows : Kept) → Tells k rows → ∥ AreRows s rows ∥₁

-- where the keeper's rows are known, the changes turn rows of state s into rows of state t
unfoldable pub Carry : {K : Type 0} → (K → Kept → Type 0) → K → State → List RowChange → State → Type 0
Carry Tells k s changes t = (rows : Kept) → Tells k rows → AreRows s rows → AreRows t (rows_after_changes rows changes)

-- refusals without a broken rule: memory ran out, or the keeper failed
abbrev pub IsUnkept : Refusal → Type 0
IsUnkept why = why ≢ refusals.NoMemory → why ≡ refusals.KeeperFault

-- no entry of the state is of the caller and the key of this one
abbrev pub IsNew : Entry → List Entry → Type 0
IsNew entry entries = entry_of entry.change.caller entry.change.key entries ≡ None

-- the changes were passed to the keeper, which made all of them where the result is Ok, and none where it is not
pub record Handed {K T : Type 0} (Tells : K → Kept → Type 0) (IsLoaded : K → Type 0) (IsSteady : K → Type 0) (faults : K → ℕ)
    (old new : K) (changes : List RowChange) (result : Result T Refusal) : Type 0 where
  pub done : OnOk result ((s t : State) → Carry Tells old s changes t → Told Tells old s → Told Tells new t)
  pub undone : OnErr result ((s : State) → Told Tells old s → Told Tells new s)
  pub loaded : ∥ IsLoaded new ∥₁
  pub later : IsLater IsSteady faults old new
  pub cause : IfErr result (λ why. why ≡ refusals.KeeperFault → HasFailed IsSteady faults old new)

-- where the keeper made the changes, s became the wanted value; else it is as it was
pub record Keeps {K T A : Type 0} (Tells : K → Kept → Type 0) (IsLoaded : K → Type 0) (IsSteady : K → Type 0) (faults : K → ℕ)
    (old new : K) (changes : List RowChange) (s wanted t : A) (result : Result T Refusal) : Type 0 where
  pub done : OnOk result (t ≡ wanted)
  pub same : OnErr result (t ≡ s)
  pub refused : IfErr result IsUnkept
  pub handed : Handed Tells IsLoaded IsSteady faults old new changes result
