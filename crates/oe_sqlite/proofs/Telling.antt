-- From what a place keeps to what a keeper tells.
use Rattle.std.proofs.Common.{◌≡◌, Bool, IsTrue, List, Option, Some, None, Result, Ok, Err, refl, sym, subst}
use Rattle.std.specs.Prelude.{IfOk, IfSome, OnErr, OnOk, MatchResult}
use Rattle.std.proofs.Math.Logic.{∥∥₁_elim, ∥∥₁_map, ∥∥₁_prop}
use Rattle.std.specs.Coded.{Coded-set}
use Rattle.oe_keeper.specs.Kept.{Kept, kept_code, rows_after_changes}
use Rattle.oe_keeper.specs.Keeping.{StaysSilent}
use Rattle.oe_keeper.specs.declared.change.RowChange.{RowChange}
use Rattle.sqlite_disk.specs.declared.Disk.{Ghosts}
use Rattle.sqlite_trees.specs.View.{doubt}
use Rattle.sqlite_trees.specs.declared.memory.MemStore.{MemStore}
use Rattle.sqlite.specs.Held.{Held, state}
use Rattle.sqlite.specs.State.{HasCleanDisk}
use Rattle.sqlite.specs.Steps.{over_memory}
use Rattle.oe_sqlite.specs.Model.{Holds, IsHeld, TellsIn, StaysIn}
use Rattle.oe_sqlite.specs.Places.{TellsAt, IsHeldAt, IsCleanAt, IsInMemory, IsPlacedBy, IsStore, StaysAt, TellsWith}
use Rattle.oe_sqlite.specs.declared.place.Place.{Place}
use Rattle.oe_sqlite.specs.declared.place.Place.TheVariants.{Nowhere, Memory, File}

pub rows_told : {E D : Type 0} {g : Ghosts D} (r : Result Kept E) (told : Bool) (old new : Place D g) → ∥ (IsTrue told → IsHeldAt old) ∥₁ → (IsHeldAt old → IfOk r (λ rows. (now : Kept) → TellsAt new now → now ≡ rows))
    → IfOk r (λ rows. (now : Kept) → TellsWith told new now → now ≡ rows)
rows_told (Ok x) told old new held h = λ now t. ∥∥₁_elim held (Coded-set kept_code _ _) (λ k. h (k t.0) now t.1)
rows_told (Err e) told old new held h = tt

pub silent_told : {D : Type 0} {g : Ghosts D} (told : Bool) (old new : Place D g) → ∥ (IsTrue told → IsHeldAt old) ∥₁ → (IsHeldAt old → StaysSilent TellsAt old new) → (now : Kept) → TellsWith told new now → ∥ ((before : Kept) × TellsWith told old before) ∥₁
silent_told told old new held h now t = ∥∥₁_elim held ∥∥₁_prop (λ k. ∥∥₁_map (h (k t.0) now t.1) (λ b. (b.0, (t.0, b.1))))

pub on_err : {T E : Type 0} {P Q : Type 0} (r : Result T E) → (P → Q) → OnErr r P → OnErr r Q
on_err (Ok x) f p = tt
on_err (Err e) f p = f p

pub always_err : {T E : Type 0} {Q : Type 0} (r : Result T E) → Q → OnErr r Q
always_err (Ok x) q = tt
always_err (Err e) q = q

-- a place that shows its rows whenever it is clean tells them while it is
shown_rows : {D : Type 0} {g : Ghosts D} (place : Place D g) → IsHeldAt place → IsCleanAt place → (rows : Kept) × TellsAt place rows
shown_rows Nowhere held clean = absurd clean
shown_rows (Memory conn) held clean = let shown = held.0 clean.0 clean.1 in (shown.0, (clean.0, clean.1, shown.1))
shown_rows (File conn) held clean = let shown = held.0 clean.0 clean.1 in (shown.0, (clean.0, clean.1, shown.1))

pub tells_rows : {D : Type 0} {g : Ghosts D} (told : Bool) (place : Place D g) → ∥ (IsTrue told → IsHeldAt place) ∥₁ → IsTrue told → IsCleanAt place → ∥ ((rows : Kept) × TellsWith told place rows) ∥₁
tells_rows told place held is clean = ∥∥₁_map held (λ h. ((shown_rows place (h is) clean).0, (is, (shown_rows place (h is) clean).1)))

pub if_some : {T : Type 0} {P Q : T → Type 0} (o : Option T) → ((x : T) → P x → Q x) → IfSome o P → IfSome o Q
if_some None f h = h
if_some (Some x) f h = f x h

pub always_ok : {T E : Type 0} {Q : Type 0} (r : Result T E) → Q → OnOk r Q
always_ok (Ok x) q = q
always_ok (Err e) q = tt

-- a store in memory is clean and open

memory_clean : (conn : Held MemStore) → HasCleanDisk (state over_memory conn)
unfolding doubt
memory_clean conn = refl

pub first_memory : (conn : Held MemStore) (rows : Kept) → (HasCleanDisk (state over_memory conn) → IsTrue (state over_memory conn).is_open → Holds (state over_memory conn) rows)
    → TellsIn (state over_memory conn) rows
first_memory conn rows holds = (memory_clean conn, refl, holds (memory_clean conn) refl)

shown_memory : (conn : Held MemStore) → IsHeld (state over_memory conn) → (rows : Kept) × TellsIn (state over_memory conn) rows
shown_memory conn held = let shown = held (memory_clean conn) refl in (shown.0, (memory_clean conn, refl, shown.1))

-- so it tells the same rows after a load
pub loaded_memory : {E : Type 0} (r : Result Kept E) (old new : Held MemStore) (before : Kept) → (IsHeld (state over_memory old) → IsHeld (state over_memory new))
    → (IsHeld (state over_memory old) → IfOk r (λ rows. (now : Kept) → TellsIn (state over_memory new) now → now ≡ rows)) → StaysIn (state over_memory old) (state over_memory new)
    → TellsIn (state over_memory old) before → TellsIn (state over_memory new) before × IfOk r (λ rows. rows ≡ before)
loaded_memory r old new before held rows stays told =
    let was : IsHeld (state over_memory old) = λ _ _. (before, told.2) in
    let now = shown_memory new (held was) in
    let tells = subst (TellsIn (state over_memory new)) (stays before now.0 told now.1) now.1 in
    (tells, given r (rows was) tells)
  where
    given : {E : Type 0} (r : Result Kept E) → IfOk r (λ rows. (now : Kept) → TellsIn (state over_memory new) now → now ≡ rows) → TellsIn (state over_memory new) before → IfOk r (λ rows. rows ≡ before)
    given (Ok x) h tells = sym (h before tells)
    given (Err e) h tells = tt

-- and after changes those with all of them, or the same after an error
pub changed_memory : {T E : Type 0} (r : Result T E) (old new : Held MemStore) (before : Kept) (changes : List RowChange) → (IsHeld (state over_memory old) → IsHeld (state over_memory new))
    → OnOk r ((a b : Kept) → TellsIn (state over_memory old) a → TellsIn (state over_memory new) b → b ≡ rows_after_changes a changes) → OnErr r (StaysIn (state over_memory old) (state over_memory new))
    → TellsIn (state over_memory old) before → MatchResult r (λ _. TellsIn (state over_memory new) (rows_after_changes before changes)) (λ _. TellsIn (state over_memory new) before)
changed_memory r old new before changes held all none told = by_end r all none (shown_memory new (held (λ _ _. (before, told.2))))
  where
    by_end : {T E : Type 0} (r : Result T E) → OnOk r ((a b : Kept) → TellsIn (state over_memory old) a → TellsIn (state over_memory new) b → b ≡ rows_after_changes a changes)
        → OnErr r (StaysIn (state over_memory old) (state over_memory new)) → (rows : Kept) × TellsIn (state over_memory new) rows
        → MatchResult r (λ _. TellsIn (state over_memory new) (rows_after_changes before changes)) (λ _. TellsIn (state over_memory new) before)
    by_end (Ok x) all none now = subst (TellsIn (state over_memory new)) (all before now.0 told now.1) now.1
    by_end (Err e) all none now = subst (TellsIn (state over_memory new)) (none before now.0 told now.1) now.1

-- a store that a path led to keeps to its place
pub placed_on : {P D : Type 0} {g : Ghosts D} (path : Option P) (old new : Place D g) → IsPlacedBy path old → StaysAt old new → IsPlacedBy path new
placed_on None Nowhere new placed stays = absurd placed
placed_on None (Memory conn) new placed stays = stays
placed_on None (File conn) new placed stays = absurd placed
placed_on (Some path) Nowhere new placed stays = absurd placed
placed_on (Some path) (Memory conn) new placed stays = absurd placed
placed_on (Some path) (File conn) new placed stays = stays

pub stays_same : {D : Type 0} {g : Ghosts D} (place : Place D g) → StaysAt place place
stays_same Nowhere = tt
stays_same (Memory conn) = tt
stays_same (File conn) = tt

pub in_memory : {P D : Type 0} {g : Ghosts D} (path : Option P) (place : Place D g) → path ≡ None → IsPlacedBy path place → IsInMemory place
in_memory path place none placed = subst (λ (p : Option _). IsPlacedBy p place) none placed

-- what is said of a place is said of a keeper that tells
pub match_told : {T E : Type 0} (A B : Type 0) (r : Result T E) (told : Bool) → IsTrue told → MatchResult r (λ _. A) (λ _. B) → MatchResult r (λ _. IsTrue told × A) (λ _. IsTrue told × B)
match_told A B (Ok x) told is h = (is, h)
match_told A B (Err e) told is h = (is, h)

-- what answers Ok over a store alone does not answer Ok where there is none
pub never_ok : {T E D : Type 0} {g : Ghosts D} (P : T → Type 0) (r : Result T E) (place : Place D g) → OnOk r (IsStore place) → place ≡ Nowhere → IfOk r P
never_ok P (Ok x) place stored nowhere = absurd (subst (λ (p : Place _ _). IsStore p) nowhere stored)
never_ok P (Err e) place stored nowhere = tt

pub never_on_ok : {T E D : Type 0} {g : Ghosts D} (Q : Type 0) (r : Result T E) (place : Place D g) → OnOk r (IsStore place) → place ≡ Nowhere → OnOk r Q
never_on_ok Q (Ok x) place stored nowhere = absurd (subst (λ (p : Place _ _). IsStore p) nowhere stored)
never_on_ok Q (Err e) place stored nowhere = tt
