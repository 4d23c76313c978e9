-- What the text that removes a row does.
use Rattle.std.proofs.Common.{◌≡◌, ◌≢◌, ◌⊎◌, inl, inr, ℕ, ℤ, pos, Bool, true, false, not, ◌&&◌, List, [], ◌∷◌, None, Ok, Err, Result, refl, sym, ap, subst, ◌∙◌}
use Rattle.std.specs.FinMap as maps
use Rattle.sqlite_value.specs.declared.value.Value.TheVariants.{Int, Text}
use Rattle.sqlite_value.specs.Order.{Row}
use Rattle.sqlite_value.proofs.OrderLemmas.{value_cmp_total}
use Rattle.sqlite_trees.specs.Tree.{Trees, rowid, has_rowid, without_rowid, IsTable}
use Rattle.sqlite_trees.proofs.ListLemmas.{ascending-filter}
use Rattle.sqlite_rules.specs.Lists.{Has}
use Rattle.sqlite_rules.specs.Edit.{id_in, without_all, row_at}
use Rattle.sqlite_rules.specs.Calls.{ids_of}
use Rattle.sqlite_rules.proofs.ListLemmas.{has_filtered}
use Rattle.sqlite_rules.proofs.TableLemmas.{without_all_has}
use Rattle.sqlite_rules.proofs.PlaceLemmas.{left_or_taken, row_at_is}
use Rattle.sqlite_rules.proofs.ProbeLemmas.{has_mapped, mapped_has}
use Rattle.sqlite_typed.proofs.TestLemmas.{at_ints, at_texts, same_bytes, bytes_eq_refl}
use Rattle.std.specs.List.{list_all}
use Rattle.sqlite_value.specs.declared.keys.Collation.TheVariants.{Binary}
use Rattle.sqlite_sql.specs.Term.{Term, col, op2, holds}
use Rattle.sqlite_sql.specs.Program.{overlay}
use Rattle.sqlite_sql.specs.declared.ops.BinaryOp.TheVariants.{Compare}
use Rattle.sqlite_sql.specs.declared.ops.CompareOp.TheVariants.{Eq}
use Rattle.std.specs.Ordering.{nat_cmp, is_eq}
use Rattle.std.specs.Cmp.{tied_itself}
use Rattle.std.specs.Cmp.Lexicographic.{slice_cmp}
use Rattle.std.proofs.Common.{arith, int_eq}
use Rattle.std.proofs.lemmas.Bool.Decides.{nat_tests}
use Rattle.std.proofs.lemmas.Int.{ints}
use Rattle.sqlite_value.specs.declared.value.Value.TheVariants.{Null}
use Rattle.sqlite_rules.specs.declared.error.Rowids.TheVariants.{Given}
use Rattle.sqlite_rules.specs.Edit.{edit_of}
use Rattle.sqlite.specs.Listing.{understood}
use Rattle.sqlite.specs.Effect.{Database}
use Rattle.sqlite.specs.Does.{Tally, Does}
use Rattle.sqlite.specs.Rows.{Written}
use Rattle.sqlite.specs.State.{State, mode_of, Executes}
use Rattle.sqlite.proofs.Callers.{runs_as, statement_of, one_step}
use Rattle.oe_sqlite.specs.Shape.{remove_text, kept_schema, kept as kept_table}
use Rattle.oe_sqlite.proofs.Texts.{remove_command, remove_is as text_is, remove_plain}
use Rattle.oe_sqlite.proofs.Answers.{AreShown, are_shown}
use Rattle.oe_sqlite.specs.Model.{key_in, tables_in, IsEntry, AreKept}
use Rattle.oe_sqlite.proofs.Changed.{remove_is}

pub without_all_table : (ids : List ℤ) (rows : List Row) → IsTable rows → IsTable (without_all rows ids)
without_all_table [] rows up = up
without_all_table (id ∷ ids) rows up = without_all_table ids (without_rowid id rows) (ascending-filter _ _ rows up)

pub gone : (ids : List ℤ) (rows : List Row) (x : Row) (id : ℤ) → Has ids id → has_rowid id x ≡ true → Has (without_all rows ids) x → ⊥
gone [] rows x id h is there = absurd h
gone (i ∷ ids) rows x id (inl e) is there =
    let left = has_filtered (λ r. not (has_rowid i r)) rows x (without_all_has ids (without_rowid i rows) x there) in
    let same : has_rowid i x ≡ true = subst (λ j. has_rowid j x ≡ true) e is in
    absurd (let no = left.1 in let both = rw same at no in cc)
gone (i ∷ ids) rows x id (inr h) is there = gone ids (without_rowid i rows) x id h is there

-- the tests of WHERE t = ?1 AND k = ?2
abbrev pub tests : List Term
tests = op2 (Compare Eq Binary) (col 1 1) (col 0 0) ∷ op2 (Compare Eq Binary) (col 1 2) (col 0 1) ∷ []

module _ (t : ℕ) (k : List ℕ) where
  abbrev pub given : Row
  given = Int (pos t) ∷ Text k ∷ []

  both : (a b : Bool) → (a && (b && true)) ≡ true → (a ≡ true) × (b ≡ true)
  both true true h = (refl, refl)
  both true false h = absurd cc
  both false b h = absurd cc

  pub passes_is : (row : Row) → IsEntry row → list_all (holds (given ∷ row ∷ [])) tests ≡ true → key_in row ≡ (t, k)
  passes_is row e h =
      let two = both _ _ (subst (λ r. list_all (holds (given ∷ r ∷ [])) tests ≡ true) e.is h) in
      let tied : int_eq (pos e.table) (pos t) ≡ true = sym (at_ints false Eq (pos e.table) (pos t)) ∙ two.0 in
      let number : e.table ≡ t = grind (arith, ints, nat_tests) in
      let text : e.key ≡ k = same_bytes e.key k (sym (at_texts false Eq e.key k) ∙ two.1) in
      ap key_in e.is ∙ (λ i. (number i, text i))

  pub is_passed : (row : Row) → IsEntry row → key_in row ≡ (t, k) → list_all (holds (given ∷ row ∷ [])) tests ≡ true
  is_passed row e h =
      let same : (e.table, e.key) ≡ (t, k) = sym (ap key_in e.is) ∙ h in
      let number : int_eq (pos e.table) (pos t) ≡ true = (let is : e.table ≡ t = ap (λ p. p.0) same in grind (arith, ints, nat_tests)) in
      let text : is_eq (slice_cmp nat_cmp e.key k) ≡ true = subst (λ x. is_eq (slice_cmp nat_cmp e.key x) ≡ true) (ap (λ p. p.1) same) (bytes_eq_refl e.key) in
      subst (λ r. list_all (holds (given ∷ r ∷ [])) tests ≡ true) (sym e.is) (rw (at_ints false Eq (pos e.table) (pos t) ∙ number, at_texts false Eq e.key k ∙ text) refl)

  id_of : (row : Row) → IsEntry row → has_rowid (id_in (rowid row)) row ≡ true
  id_of row e = subst (λ r. has_rowid (id_in (rowid r)) r ≡ true) (sym e.is) (ap is_eq (tied_itself value_cmp_total (Int e.id)))

  -- the rows that are left once those that the query finds are taken out
  module _ (db : Trees) (kept : AreKept (db 0)) (rows : List Row) (shown : AreShown tests (col 1 0 ∷ []) db given rows) where
    abbrev left : List Row
    left = without_all (db 0) (ids_of rows)

    one_of : (x : Row) → Has left x → Has (db 0) x
    one_of x h = without_all_has (ids_of rows) (db 0) x h

    stays : (x : Row) → key_in x ≢ (t, k) → Has (db 0) x → Has left x
    stays x apart h = elim (left_or_taken (db 0) (ids_of rows) x kept.rising h) [
      | inl there ↦ there
      | inr taken ↦
          let id = has_mapped (row_at (db 0)) (ids_of rows) x taken in
          let found = has_mapped (λ r. id_in (rowid r)) rows id.0 id.1 in
          let r = shown.sound found.0 found.1 in
          let number : id.0 ≡ id_in (rowid r.0) = found.2 ∙ ap (λ q. id_in (rowid q)) r.3 in
          let it : row_at (db 0) id.0 ≡ r.0 = ap (row_at (db 0)) number ∙ row_at_is (db 0) (id_in (rowid r.0)) r.0 kept.rising r.1 (id_of r.0 (kept.entries r.0 r.1)) in
          absurd (apart (ap key_in (id.2 ∙ it) ∙ passes_is r.0 (kept.entries r.0 r.1) r.2))
    ]

    none : (x : Row) → Has left x → key_in x ≢ (t, k)
    none x there is =
        let here = one_of x there in
        let e = kept.entries x here in
        let answered = shown.complete x here (is_passed x e is) in
        gone (ids_of rows) (db 0) x (id_in (rowid x)) (mapped_has (λ r. id_in (rowid r)) rows (rowid x ∷ []) answered) (id_of x e) there

    still : AreKept left
    still = record {
      rising = without_all_table (ids_of rows) (db 0) kept.rising;
      entries = λ x h. kept.entries x (one_of x h);
      keyed = λ x y h g same. kept.keyed x y (one_of x h) (one_of y g) same;
    }

    left_is : tables_in left ≡ maps.remove (tables_in (db 0)) (t, k)
    left_is = remove_is (db 0) left (t, k) kept.keyed still.keyed stays (λ x apart h. one_of x h) none

-- a part that gave a value did not stop on the way
pub went : {B E R : Type 0} {b : B} {Stops : E → Type 0} → ((stop : E) × Stops stop × (Ok b ≡ Err stop)) ⊎ R → R
went (inl stopped) = absurd (let e = stopped.2 in cc)
went (inr on) = on

pub same_value : {B E : Type 0} {a b : B} → ◌≡◌ {A = Result B E} (Ok a) (Ok b) → a ≡ b
same_value e = cc

-- the row of this table with this key is removed, and nothing else
pub removes : (old new : State) (t : ℕ) (k : List ℕ) (count : ℕ) → old.now.schema ≡ kept_schema → AreKept (old.now.trees 0) → Executes remove_text (given t k) old new (Ok count)
    → (new.now.schema ≡ kept_schema) × AreKept (new.now.trees 0) × (tables_in (new.now.trees 0) ≡ maps.remove (tables_in (old.now.trees 0)) (t, k))
removes old new t k count has kept h =
    let params = given t k in
    let db = old.now.trees in
    let w = runs_as remove_text params old new kept_schema has remove_command text_is remove_plain count h in
    let text = statement_of remove_text (understood kept_schema remove_text) in
    let done = went (subst (λ s. Does old.step_limit (mode_of old) params (record old.now { schema = s }) text None remove_command (Ok (w.tally, new.now))) has w.changed) in
    let now = ap (λ (p : Tally × Database). p.1) (same_value (went (went done.2).2).2) in
    let found = went done.1 in
    let written = went found.2 in
    let trees : done.0.trees ≡ written.0 = ap (λ (it : Written). it.trees) (same_value written.2) in
    let rows = (one_step kept_schema _ db written.0 (edit_of db kept_table (ids_of found.0) Given 0 []) refl written.1).rows in
    let over = are_shown tests (col 1 0 ∷ []) (overlay db []) params [] found.0 (found.1.answer Null) in
    let shown : AreShown tests (col 1 0 ∷ []) db params found.0 = record { sound = over.sound; complete = over.complete } in
    let is : new.now.trees 0 ≡ without_all (db 0) (ids_of found.0) = ap (λ (d : Database). d.trees 0) now ∙ ap (λ (t : Trees). t 0) trees ∙ rows in
    (ap (λ (d : Database). d.schema) now, subst AreKept (sym is) (still t k db kept found.0 shown), ap tables_in is ∙ left_is t k db kept found.0 shown)
