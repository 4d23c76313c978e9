-- What reading the table leaves.
use Rattle.std.proofs.Common.{◌≡◌, ◌⊎◌, inl, inr, ℕ, ◌+◌, Bool, true, false, cond, IsTrue, List, [], ◌∷◌, ◌++◌, map, length, ◌<◌, take, get_or, Option, Some, None, Ok, refl, sym, ap, subst, ◌∙◌, is_some}
use Rattle.std.proofs.lemmas.List.{take_more, map-append}
use Rattle.std.specs.FinMap as maps
use Rattle.std.specs.FinMap.{len-insert, get-from_entries, from_entries_push}
use Rattle.sqlite_value.specs.Order.{Row}
use Rattle.sqlite_schema.specs.declared.command.Returning.{Returning}
use Rattle.sqlite.specs.declared.error.Error.{Error}
use Rattle.sqlite.specs.Effect.{Database}
use Rattle.sqlite.specs.Listing.{understood}
use Rattle.sqlite.specs.Given.{IsPlain}
use Rattle.sqlite.specs.Clock.{timed}
use Rattle.sqlite.specs.State.{State, Shown, ShowsRows, FailsToQuery, FailsToShow, IsNotRun, IsUnchanged, IsRolledBack}
use Rattle.oe_keeper.specs.Kept.{Key, Kept}
use Rattle.oe_sqlite.specs.Model.{Holds, AreKept, tables_in, pair_shown}
use Rattle.oe_sqlite.specs.Shape.{select_text, kept_schema}
use Rattle.oe_sqlite.proofs.Texts.{select_plain}
use Rattle.oe_keeper.specs.Kept.{key_cmp_total}
use Rattle.oe_keeper.proofs.Keys.{key_cmp-same}
use Rattle.oe_sqlite.proofs.Loads.{selects, loaded_entries}

none_of : {A : Type 0} (o : Option A) → is_some o ≡ false → o ≡ None
none_of None h = refl
none_of (Some x) h = absurd cc

-- a map that grew had nothing at the key
pub was_new : (m : Kept) (k : Key) (v : List ℕ) → (maps.len (maps.insert m k v) ≡ maps.len m → ⊥) → maps.get m k ≡ None
was_new m k v grew = none_of _ (go (is_some (maps.get m k)) refl)
  where
    go : (b : Bool) → is_some (maps.get m k) ≡ b → is_some (maps.get m k) ≡ false
    go true e = absurd (grew (len-insert key_cmp_total m k v ∙ ap (λ b. cond b (maps.len m) (maps.len m + 1)) e))
    go false e = e

pub one_more : (m n : Kept) (es : List (Key × List ℕ)) (e : Key × List ℕ) → m ≡ maps.from_entries es → maps.get m e.0 ≡ None → n ≡ maps.insert m e.0 e.1 → n ≡ maps.from_entries (es ++ e ∷ [])
one_more m n es e is none added =
    added ∙ ap (λ k. maps.insert k e.0 e.1) is ∙ sym (from_entries_push key_cmp_total key_cmp-same es e.0 e.1 (sym (get-from_entries key_cmp_total es e.0) ∙ ap (λ k. maps.get k e.0) (sym is) ∙ none))

-- one state that shows the rows of another
pub holds_over : (old new : State) (tables : Kept) → new.now ≡ old.now → Holds old tables → Holds new tables
holds_over old new tables e h = record {
  schema = ap (λ (d : Database). d.schema) e ∙ h.schema;
  rows = subst (λ (d : Database). AreKept (d.trees 0)) (sym e) h.rows;
  are = ap (λ (d : Database). tables_in (d.trees 0)) e ∙ h.are;
}

pub same_now : (old new : State) → IsUnchanged old new ⊎ IsRolledBack old new → IsTrue new.is_open → (IsTrue old.is_open → old.now ≡ old.committed) → new.now ≡ old.now
same_now old new (inl u) up settled = u.0.now_is
same_now old new (inr r) up settled = (r.undone up).0 ∙ sym (settled (r.was_open up))

pub were_open : (old new : State) → IsUnchanged old new ⊎ IsRolledBack old new → IsTrue new.is_open → IsTrue old.is_open
were_open old new (inl u) up = u.0.was_open
were_open old new (inr r) up = r.was_open up

-- a query that failed leaves the store as it was
pub query_failed : (sql : List ℕ) (params : Row) (old new : State) (e : Error) → FailsToQuery sql params old new e → IsUnchanged old new ⊎ IsRolledBack old new
unfolding FailsToQuery IsNotRun
query_failed sql params old new e (inl (inl not)) = inl not.1
query_failed sql params old new e (inl (inr failed)) = inr failed.3
query_failed sql params old new e (inr ran) = go ran.0.returning ran.2
  where
    go : (r : Option Returning) → FailsToShow old new sql ran.0 (timed params ran.0.formats ran.1.now) e r → IsUnchanged old new ⊎ IsRolledBack old new
    go None h = inl h.3
    go (Some what) (inl h) = inl h.1
    go (Some what) (inr h) = inr h.3

-- and so does one that answered
pub shown_open : (sql : List ℕ) (params : Row) (old new : State) (rows : List Row) → Shown sql params old new rows → IsTrue old.is_open
unfolding Shown
shown_open sql params old new rows h = go h.0.returning h.2
  where
    go : (r : Option Returning) → ShowsRows old new sql h.0 (timed params h.0.formats h.1.now) rows r → IsTrue old.is_open
    go None s = s.3.0.was_open
    go (Some what) s = s.1.shown.was_open

pub shown_still : (old new : State) (rows : List Row) → old.now.schema ≡ kept_schema → Shown select_text [] old new rows → IsUnchanged old new
unfolding Shown
shown_still old new rows has h =
    let known : understood kept_schema select_text ≡ Ok h.0 = sym (ap (λ s. understood s select_text) has) ∙ h.1.is in
    let bare = subst IsPlain known select_plain in
    go h.0.returning bare.0 h.2
  where
    go : (r : Option Returning) → r ≡ None → ShowsRows old new select_text h.0 (timed [] h.0.formats h.1.now) rows r → IsUnchanged old new
    go None e s = s.3
    go (Some what) e s = absurd cc

pub rows_are : (old new : State) (rows zs : List Row) (answer tables : Kept) → Shown select_text [] old new rows → zs ≡ rows → answer ≡ maps.from_entries (map pair_shown zs) → Holds old tables → tables ≡ answer
rows_are old new rows zs answer tables shown e is holds =
    sym holds.are ∙ loaded_entries old.now.trees holds.rows rows (selects old new rows holds.schema shown) answer (is ∙ ap (λ l. maps.from_entries (map pair_shown l)) e)

pub walked : (rows : List Row) (i : ℕ) (d : Row) → i < length rows → get_or rows i d ≡ d → map pair_shown (take i rows) ++ pair_shown d ∷ [] ≡ map pair_shown (take (i + 1) rows)
walked rows i d within at = sym (ap (map pair_shown) (take_more rows i d within ∙ ap (λ x. take i rows ++ x ∷ []) at) ∙ map-append pair_shown (take i rows) (d ∷ []))
