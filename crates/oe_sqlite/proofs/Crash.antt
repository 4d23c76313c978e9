-- What a crash leaves of a store that holds the table.
use Rattle.std.proofs.Common.{◌≡◌, ◌⊎◌, inl, inr, ℕ, [], Some, None, Ok, IsTrue, IsSome, sym, ap, subst, ◌∙◌}
use Rattle.sqlite_value.specs.Order.{Row}
use Rattle.sqlite_trees.specs.Tree.{Trees}
use Rattle.sqlite_catalog.specs.Listing.{IsSound}
use Rattle.sqlite.specs.Effect.{Database, IsDatabase}
use Rattle.sqlite.specs.Given.{IsPlain}
use Rattle.sqlite.specs.Listing.{understood}
use Rattle.sqlite.specs.State.{State, IsLive, Executes, CommitsShowing}
use Rattle.sqlite.proofs.Callers.{runs_as}
use Rattle.oe_keeper.specs.Kept.{Kept}
use Rattle.oe_sqlite.specs.Model.{Holds, AreRows, TellsIn, tables_in}
use Rattle.oe_sqlite.specs.Shape.{put_text, remove_text, select_text, kept_schema}
use Rattle.oe_sqlite.proofs.Texts.{put_command, put_is, put_plain, remove_command, remove_is, remove_plain, select_plain}

-- what a text writes obeys the schema
pub put_sound : (given : Row) (old new : State) (count : ℕ) → old.now.schema ≡ kept_schema → Executes put_text given old new (Ok count) → IsDatabase new.now
put_sound given old new count has h = (runs_as put_text given old new kept_schema has put_command put_is put_plain count h).sound

pub remove_sound : (given : Row) (old new : State) (count : ℕ) → old.now.schema ≡ kept_schema → Executes remove_text given old new (Ok count) → IsDatabase new.now
remove_sound given old new count has h = (runs_as remove_text given old new kept_schema has remove_command remove_is remove_plain count h).sound

-- a read commits nothing
reads_only : (s : State) (db : Trees) → s.now.schema ≡ kept_schema → ¬ CommitsShowing select_text [] s db
unfolding CommitsShowing
reads_only s db has h =
    let known : understood kept_schema select_text ≡ Ok h.0 = sym (ap (λ x. understood x select_text) has) ∙ h.1.is in
    let bare = subst IsPlain known select_plain in
    let some = rw bare.0 at h.2 in
    absurd cc

pub read_leaves : {A : Type 0} (s : State) (db : Trees) → s.now.schema ≡ kept_schema → A ⊎ CommitsShowing select_text [] s db → A
read_leaves s db has (inl a) = a
read_leaves s db has (inr h) = absurd (reads_only s db has h)

pub rows_of : (s : State) (rows : Kept) → IsDatabase s.now → Holds s rows → AreRows s.now.trees rows
rows_of s rows sound holds = record { sound = subst (λ x. IsSound x s.now.trees) holds.schema sound; are = holds.are }

-- outside a transaction the last commit has the rows, and a crash leaves it
pub committed_rows : (s : State) (rows : Kept) → IsTrue s.is_open → IsLive s → s.now ≡ s.committed → Holds s rows → AreRows s.committed.trees rows
committed_rows s rows up live settled holds = subst (λ (d : Database). AreRows d.trees rows) settled (rows_of s rows (live up).0 holds)

pub crash_rows : (s : State) (rows : Kept) (db : Trees) → IsLive s → (IsTrue s.is_open → s.now ≡ s.committed) → TellsIn s rows → db ≡ s.committed.trees → AreRows db rows
crash_rows s rows db live settled tells same = subst (λ t. AreRows t rows) (sym same) (committed_rows s rows tells.1 live (settled tells.1) tells.2)

pub either : {A B C : Type 0} → (A → C) → A ⊎ B → C ⊎ B
either f (inl a) = inl (f a)
either f (inr b) = inr b
