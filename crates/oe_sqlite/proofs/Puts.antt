-- What the text that puts a row does.
use Rattle.std.proofs.Common.{◌≡◌, ◌≢◌, ◌⊎◌, inl, inr, ℕ, ℤ, pos, Bool, true, false, ◌&&◌, ◌||◌, List, [], ◌∷◌, ◌++◌, map, None, Some, Ok, refl, sym, ap, subst, ◌∙◌}
use Rattle.std.specs.FinMap as maps
use Rattle.sqlite_value.specs.declared.value.Value.{Value}
use Rattle.sqlite_value.specs.declared.value.Value.TheVariants.{Int, Text, Null}
use Rattle.sqlite_value.specs.Order.{Row, value_cmp}
use Rattle.sqlite_trees.specs.Tree.{Trees, rowid, IsTable, put_row}
use Rattle.sqlite_trees.proofs.TreeLemmas.{IsTable-put_row}
use Rattle.sqlite_rules.specs.Lists.{Has}
use Rattle.sqlite_rules.specs.Edit.{id_in, without_all, put_all, are_fresh}
use Rattle.sqlite_rules.proofs.TableLemmas.{without_all_has, put_all_has, put_all_keeps, put_all_adds}
use Rattle.std.proofs.Common.{Option, cond}
use Rattle.sqlite_rules.specs.declared.error.Rowids.TheVariants.{Given}
use Rattle.sqlite_rules.specs.Edit.{edit_of}
use Rattle.sqlite.specs.Rows.{Written, Puts, Clears, Meets, Upserts, Judged, TriesEach, nothing}
use Rattle.sqlite_rules.specs.declared.error.Refusal.{Refusal}
use Rattle.sqlite_rules.specs.Keys.{AreConflicts, conflicts}
use Rattle.sqlite.specs.Listing.{understood}
use Rattle.sqlite.specs.Effect.{Database}
use Rattle.sqlite.specs.Does.{Tally, Does}
use Rattle.sqlite.specs.State.{State, mode_of, Executes}
use Rattle.sqlite.proofs.Callers.{runs_as, statement_of}
use Rattle.sqlite.proofs.Callers.{one_step}
use Rattle.sqlite_sql.specs.Program.{overlay}
use Rattle.sqlite_sql.specs.Term.{Term, col, op2, holds}
use Rattle.sqlite_value.specs.declared.keys.Collation.TheVariants.{Binary}
use Rattle.sqlite_sql.specs.declared.ops.BinaryOp.TheVariants.{Compare}
use Rattle.sqlite_sql.specs.declared.ops.CompareOp.TheVariants.{Eq}
use Rattle.sqlite.specs.Rows.{Updates, Tries, shown}
use Rattle.std.proofs.Common.{drop, int_eq, is_eq, arith}
use Rattle.std.specs.Cmp.{tied_itself}
use Rattle.std.proofs.lemmas.Bool.Decides.{nat_tests}
use Rattle.std.proofs.lemmas.Int.{ints}
use Rattle.sqlite_value.proofs.OrderLemmas.{value_cmp_total}
use Rattle.sqlite_trees.specs.Tree.{has_rowid}
use Rattle.sqlite_sql.specs.Ops.{binary, is_true}
use Rattle.sqlite_sql.specs.Term.{eval_all}
use Rattle.sqlite_rules.specs.Calls.{ids_of}
use Rattle.sqlite_rules.specs.Edit.{Edit, Applies, row_at}
use Rattle.sqlite_rules.proofs.PlaceLemmas.{tied_same, left_or_taken, row_at_is, given as numbered_given}
use Rattle.sqlite_rules.proofs.ProbeLemmas.{has_mapped, mapped_has}
use Rattle.sqlite_typed.proofs.TestLemmas.{at_ints}
use Rattle.oe_sqlite.proofs.Removes.{gone}
use Rattle.oe_sqlite.proofs.Texts.{update_query, on_conflict}
use Rattle.oe_sqlite.proofs.Answers.{AreShown, are_shown}
use Rattle.oe_sqlite.proofs.Removes.{went, same_value}
use Rattle.sqlite_value.specs.Keys.{first_key}
use Rattle.sqlite_sql.specs.Ops.{unary}
use Rattle.sqlite_schema.specs.declared.schema.Kind.TheVariants.{Integer}
use Rattle.sqlite_rules.specs.Cast.{cast}
use Rattle.sqlite_rules.specs.declared.error.Rowids.TheVariants.{Chosen}
use Rattle.sqlite_rules.specs.Cast.{cast_row}
use Rattle.sqlite_rules.specs.Edit.{with_rowid, next_rowid}
use Rattle.sqlite_schema.specs.declared.schema.Keys.TheVariants.{Enforced}
use Rattle.sqlite_schema.specs.declared.command.Source.TheVariants.{Values}
use Rattle.sqlite_schema.specs.declared.command.Conflict.TheVariants.{Abort}
use Rattle.sqlite_schema.specs.Rules.{agree}
use Rattle.sqlite.specs.Rows.{Task, Sourced, stamped, rowids_for, count_of, mended}
use Rattle.oe_sqlite.specs.Shape.{put_text, kept_schema, kept as kept_table, by_bytes}
use Rattle.oe_sqlite.proofs.Texts.{put_terms, put_command, put_is as text_is, put_plain}
use Rattle.oe_sqlite.proofs.Removes.{passes_is, is_passed}
use Rattle.oe_keeper.specs.Kept.{Key}
use Rattle.oe_sqlite.specs.Model.{key_in, pair_in, tables_in, IsEntry, AreKept}
use Rattle.oe_sqlite.proofs.Changed.{put_is}
use Rattle.oe_sqlite.proofs.Removes.{without_all_table}

put_all_table : (news rows : List Row) → IsTable rows → IsTable (put_all rows news)
put_all_table [] rows up = up
put_all_table (r ∷ news) rows up = put_all_table news (put_row r rows) (IsTable-put_row r rows up)

-- the rows with the key are taken out, and this row is put in
module _ (rows : List Row) (kept : AreKept rows) (at : Key) (ids : List ℤ) (news : List Row) (row : Row) (entry : IsEntry row) (key : key_in row ≡ at) (all : (x : Row) → Has news x → x ≡ row)
    (some : Has news row) (fresh : are_fresh (without_all rows ids) news ≡ true) (taken : (x : Row) → Has (without_all rows ids) x → key_in x ≢ at)
    (spared : (x : Row) → key_in x ≢ at → Has rows x → Has (without_all rows ids) x) where
  abbrev left : List Row
  left = without_all rows ids

  abbrev pub now : List Row
  now = put_all left news

  here : (x : Row) → Has now x → (x ≡ row) ⊎ Has left x
  here x h = elim (put_all_has news left x h) [ inl new ↦ inl (all x new) | inr old ↦ inr old ]

  one_of : (x : Row) → Has left x → Has rows x
  one_of x h = without_all_has ids rows x h

  alone : (x y : Row) → (x ≡ row) ⊎ Has left x → (y ≡ row) ⊎ Has left y → key_in x ≡ key_in y → x ≡ y
  alone x y (inl h) (inl g) same = h ∙ sym g
  alone x y (inl h) (inr g) same = absurd (taken y g (sym same ∙ ap key_in h ∙ key))
  alone x y (inr h) (inl g) same = absurd (taken x h (same ∙ ap key_in g ∙ key))
  alone x y (inr h) (inr g) same = kept.keyed x y (one_of x h) (one_of y g) same

  entry_of : (x : Row) → (x ≡ row) ⊎ Has left x → IsEntry x
  entry_of x (inl h) = subst IsEntry (sym h) entry
  entry_of x (inr h) = kept.entries x (one_of x h)

  was : (x : Row) → key_in x ≢ at → (x ≡ row) ⊎ Has left x → Has rows x
  was x apart (inl h) = absurd (apart (ap key_in h ∙ key))
  was x apart (inr h) = one_of x h

  pub still : AreKept now
  still = record {
    rising = put_all_table news left (without_all_table ids rows kept.rising);
    entries = λ x h. entry_of x (here x h);
    keyed = λ x y h g same. alone x y (here x h) (here y g) same;
  }

  pub now_is : tables_in now ≡ maps.insert (tables_in rows) at (pair_in row).1
  now_is = put_is rows now at kept.keyed still.keyed (λ x apart h. put_all_keeps news left x fresh (spared x apart h)) (λ x apart h. was x apart (here x h)) row (put_all_adds news left row fresh some) key

either : (b : Bool) (x : Value) → cond b x x ≡ x
either true x = refl
either false x = refl

cast_null : cast Integer Null ≡ Null
unfolding unary
cast_null = either _ Null

cast_int : (z : ℤ) → cast Integer (Int z) ≡ Int z
unfolding unary
cast_int z = either _ (Int z)

abbrev same_rowid : List Term
same_rowid = op2 (Compare Eq Binary) (col 1 0) (col 0 3) ∷ []

abbrev new_text : List Term
new_text = col 1 0 ∷ col 1 0 ∷ col 1 1 ∷ col 1 2 ∷ col 0 7 ∷ []

module _ (t : ℕ) (k v : List ℕ) where
  abbrev pub given : Row
  given = Int (pos t) ∷ Text k ∷ Text v ∷ []

  abbrev pub source : Row
  source = Null ∷ Int (pos t) ∷ Text k ∷ Text v ∷ []

  abbrev pub placed : ℤ → Row
  placed id = Int id ∷ Int (pos t) ∷ Text k ∷ Text v ∷ []

  abbrev task : Option ℕ → Task
  task limit = record { limit = limit; keys = Enforced; schema = kept_schema; table = kept_table; params = given }

  source_is : (db : Trees) (limit : Option ℕ) (rows : List Row) → Sourced limit (record { schema = kept_schema; trees = db }) (stamped kept_table given) (Values put_terms 4) (Ok rows) → rows ≡ source ∷ []
  source_is db limit rows h = h.1

  cast_is : (id : ℤ) → cast_row kept_table (placed id) ≡ placed id
  cast_is id = rw (cast_int id, cast_int (pos t)) refl

  new_is : (rows : List Row) → with_rowid (rowids_for kept_table (count_of None)) rows (cast_row kept_table (mended Abort kept_table source)) ≡ placed (next_rowid rows)
  new_is rows = ap (with_rowid Chosen rows) (λ i. cast_null i ∷ cast_int (pos t) i ∷ Text k ∷ Text v ∷ [])

  agree_is : (row : Row) (id : ℤ) → IsEntry row → agree by_bytes (1 ∷ 2 ∷ []) row (1 ∷ 2 ∷ []) (placed id) ≡ true → key_in row ≡ (t, k)
  unfolding first_key
  agree_is row id e h = passes_is t k row e h

  pub agrees : (row : Row) (id : ℤ) → IsEntry row → key_in row ≡ (t, k) → agree by_bytes (1 ∷ 2 ∷ []) row (1 ∷ 2 ∷ []) (placed id) ≡ true
  unfolding first_key
  agrees row id e h = is_passed t k row e h

  entry : (id : ℤ) → IsEntry (placed id)
  entry id = record { id = id; table = t; key = k; text = v; is = refl }

  or_true : (b : Bool) → (b || false) ≡ true → b ≡ true
  or_true true h = refl
  or_true false h = absurd cc

  -- what is to be shown of the trees that the text leaves
  abbrev pub HasPut : Trees → Trees → Type 0
  HasPut old new = AreKept (new 0) × (tables_in (new 0) ≡ maps.insert (tables_in (old 0)) (t, k) v)

  module _ (limit : Option ℕ) (db : Trees) (kept : AreKept (db 0)) (one : Written) where
    -- no row has the key
    puts : (id : ℤ) → ((x : Row) → Has (db 0) x → key_in x ≢ (t, k)) → Puts (task limit) (placed id) db (Ok one) → HasPut db one.trees
    puts id none h =
        let w = went h in
        let edit = edit_of db kept_table [] Given 0 (placed id ∷ []) in
        let applies = one_step kept_schema Enforced db w.0 edit refl w.1 in
        let news : List Row = cast_row kept_table (placed id) ∷ [] in
        let all : (x : Row) → Has news x → x ≡ placed id = λ x there. elim there [ inl e ↦ e ∙ cast_is id | inr never ↦ absurd never ] in
        let some : Has news (placed id) = inl (sym (cast_is id)) in
        let is : one.trees 0 ≡ put_all (without_all (db 0) []) news = ap (λ (it : Written). it.trees 0) (same_value w.2) ∙ applies.rows in
        let ok = still (db 0) kept (t, k) [] news (placed id) (entry id) refl all some applies.fresh none (λ x _ there. there) in
        (subst AreKept (sym is) ok, ap tables_in is ∙ now_is (db 0) kept (t, k) [] news (placed id) (entry id) refl all some applies.fresh none (λ x _ there. there))

    -- the row that has the key gets the new text
    module _ (id : ℤ) (there : Row) (r : Row) (has : Has (db 0) r) (key : key_in r ≡ (t, k)) (is : there ≡ rowid r ∷ []) where
      abbrev params : Row
      params = given ++ rowid there ∷ shown kept_table (placed id)

      abbrev e : IsEntry r
      e = kept.entries r has

      abbrev seen : Row
      seen = Int e.id ∷ placed e.id

      tied : (s : Row) → Has (db 0) s → holds (params ∷ s ∷ []) (op2 (Compare Eq Binary) (col 1 0) (col 0 3)) ≡ true → s ≡ r
      tied s h passes =
          let f = kept.entries s h in
          let bound : rowid there ≡ Int e.id = ap rowid is ∙ ap rowid e.is in
          let test : is_true (binary (Compare Eq Binary) (Int f.id) (Int e.id)) ≡ true = subst (λ x. is_true (binary (Compare Eq Binary) (Int f.id) x) ≡ true) bound (subst (λ x. holds (params ∷ x ∷ []) (op2 (Compare Eq Binary) (col 1 0) (col 0 3)) ≡ true) f.is passes) in
          let equal : int_eq f.id e.id ≡ true = sym (at_ints false Eq f.id e.id) ∙ test in
          let same : f.id ≡ e.id = grind (arith, ints, nat_tests) in
          tied_same (db 0) s r kept.rising h has (ap (λ x. value_cmp (rowid x) (rowid r)) f.is ∙ ap (λ x. value_cmp (Int f.id) (rowid x)) e.is ∙ ap (λ n. value_cmp (Int n) (Int e.id)) same ∙ tied_itself value_cmp_total (Int e.id))

      r_is : r ≡ Int e.id ∷ Int (pos t) ∷ Text k ∷ Text e.text ∷ []
      r_is = let same : (e.table, e.key) ≡ (t, k) = sym (ap key_in e.is) ∙ key in e.is ∙ (λ i. Int e.id ∷ Int (pos ((same i).0)) ∷ Text ((same i).1) ∷ Text e.text ∷ [])

      seen_is : eval_all new_text (params ∷ r ∷ []) ≡ seen
      seen_is = ap (λ x. eval_all new_text (params ∷ x ∷ [])) r_is

      module _ (rows : List Row) (found : AreShown same_rowid new_text db params rows) where
        each : (x : Row) → Has rows x → x ≡ seen
        each x h =
            let s = found.sound x h in
            s.3 ∙ ap (λ y. eval_all new_text (params ∷ y ∷ [])) (tied s.0 s.1 (whole _ s.2)) ∙ seen_is
          where
            whole : (b : Bool) → (b && true) ≡ true → b ≡ true
            whole true h = refl
            whole false h = absurd cc

        itself : holds (params ∷ r ∷ []) (op2 (Compare Eq Binary) (col 1 0) (col 0 3)) ≡ true
        itself =
            let bound : rowid there ≡ Int e.id = ap rowid is ∙ ap rowid e.is in
            let equal : int_eq e.id e.id ≡ true = grind (arith, ints, nat_tests) in
            subst (λ x. is_true (binary (Compare Eq Binary) x (rowid there)) ≡ true) (sym (ap rowid e.is)) (subst (λ x. is_true (binary (Compare Eq Binary) (Int e.id) x) ≡ true) (sym bound) (at_ints false Eq e.id e.id ∙ equal))

        some : Has rows seen
        some = subst (Has rows) seen_is (found.complete r has (rw itself refl))

        abbrev ids : List ℤ
        ids = ids_of rows

        listed : Has ids e.id
        listed = mapped_has (λ x. id_in (rowid x)) rows seen some

        has_id : has_rowid e.id r ≡ true
        has_id = subst (λ x. has_rowid e.id x ≡ true) (sym e.is) (ap is_eq (tied_itself value_cmp_total (Int e.id)))

        taken : (x : Row) → Has (without_all (db 0) ids) x → key_in x ≢ (t, k)
        taken x h same =
            let one = kept.keyed x r (without_all_has ids (db 0) x h) has (same ∙ sym key) in
            gone ids (db 0) x e.id listed (subst (λ y. has_rowid e.id y ≡ true) (sym one) has_id) h

        spared : (x : Row) → key_in x ≢ (t, k) → Has (db 0) x → Has (without_all (db 0) ids) x
        spared x apart h = elim (left_or_taken (db 0) ids x kept.rising h) [
          | inl left ↦ left
          | inr out ↦
              let n = has_mapped (row_at (db 0)) ids x out in
              let s = has_mapped (λ y. id_in (rowid y)) rows n.0 n.1 in
              let number : n.0 ≡ e.id = s.2 ∙ ap (λ y. id_in (rowid y)) (each s.0 s.1) in
              absurd (apart (ap key_in (n.2 ∙ ap (row_at (db 0)) number ∙ row_at_is (db 0) e.id r kept.rising has has_id) ∙ key))
        ]

        abbrev edit : Edit
        edit = edit_of db kept_table ids Given 1 rows

        news_are : edit.news ≡ map (λ s. cast_row kept_table (drop 1 s)) rows
        news_are = numbered_given _ _

        all : (x : Row) → Has edit.news x → x ≡ placed e.id
        all x h = let s = has_mapped (λ y. cast_row kept_table (drop 1 y)) rows x (subst (λ l. Has l x) news_are h) in s.2 ∙ ap (λ y. cast_row kept_table (drop 1 y)) (each s.0 s.1) ∙ cast_is e.id

        put : Has edit.news (placed e.id)
        put = subst (λ l. Has l (placed e.id)) (sym news_are) (subst (Has (map (λ s. cast_row kept_table (drop 1 s)) rows)) (cast_is e.id) (mapped_has (λ s. cast_row kept_table (drop 1 s)) rows seen some))

        changed : (next : Trees) → Applies kept_schema Enforced db edit next → AreKept (next 0) × (tables_in (next 0) ≡ maps.insert (tables_in (db 0)) (t, k) v)
        changed next applies = (
          subst AreKept (sym applies.rows) (still (db 0) kept (t, k) ids edit.news (placed e.id) (entry e.id) refl all put applies.fresh taken spared),
          ap tables_in applies.rows ∙ now_is (db 0) kept (t, k) ids edit.news (placed e.id) (entry e.id) refl all put applies.fresh taken spared,
        )

      updates : Updates (task limit) (record { lets = []; body = update_query }) params db (Ok one) → HasPut db one.trees
      updates h =
          let w = went h in
          let over = are_shown same_rowid new_text (overlay db []) params [] w.0 (w.1.answer Null) in
          let found : AreShown same_rowid new_text db params w.0 = record { sound = over.sound; complete = over.complete } in
          let inner = went w.2 in
          let applies = one_step kept_schema Enforced db inner.0 (edit_of db kept_table (ids_of w.0) Given 1 w.0) refl inner.1 in
          let is : one.trees ≡ inner.0 = ap (λ (it : Written). it.trees) (same_value inner.2) in
          subst (HasPut db) (sym is) (changed w.0 found inner.0 applies)

    module _ (id : ℤ) where
      cleared : (found : List Row) → Clears (task limit) Abort (placed id) db found (Ok one) → Puts (task limit) (placed id) db (Ok one)
      cleared [] h = h
      cleared (x ∷ more) h = h

      clash : (x : Row) → Has (db 0) x → key_in x ≡ (t, k) → conflicts (Some (1 ∷ 2 ∷ [])) kept_schema.indexes kept_table (placed id) x ≡ true
      clash x h key = rw (agrees x id (kept.entries x h) key) refl

      clashed : (x : Row) → Has (db 0) x → conflicts (Some (1 ∷ 2 ∷ [])) kept_schema.indexes kept_table (placed id) x ≡ true → key_in x ≡ (t, k)
      clashed x h is = agree_is x id (kept.entries x h) (or_true _ is)

      meets : (found : List Row) → AreConflicts (Some (1 ∷ 2 ∷ [])) kept_schema.indexes kept_table (db 0) (placed id) found
          → Meets (task limit) (Upserts (task limit) Abort (placed id) db []) (placed id) db on_conflict found (Ok one) → HasPut db one.trees
      meets [] c h = puts id (λ x there key. c.complete x there (clash x there key)) (cleared h.0 h.2)
      meets (there ∷ more) c h = let r = c.sound there (inl refl) in updates id there r.0 r.1 (clashed r.0 r.1 r.2) r.3 h

      judged : (verdict : Option Refusal) → Judged (task limit) Abort (on_conflict ∷ []) (placed id) db verdict (Ok one) → HasPut db one.trees
      judged None h = meets h.0 h.1 h.2
      judged (Some why) h = absurd (let e = h in cc)

      upserts : Tries (task limit) Abort (on_conflict ∷ []) (placed id) db (Ok one) → HasPut db one.trees
      upserts (inl refused) = absurd (let e = refused.1 in cc)
      upserts (inr h) = judged h.0 h.2

  -- the rows of VALUES, one at a time
  tried : (limit : Option ℕ) (db : Trees) → AreKept (db 0) → (rows : List Row) (top : ℤ) (done : Written × ℤ) → rows ≡ source ∷ [] → top ≡ count_of None
      → TriesEach (task limit) Abort (on_conflict ∷ []) rows top (nothing db) (Ok done) → HasPut db done.0.trees
  tried limit db kept rows top done is from h =
      let w = went (subst (λ n. TriesEach (task limit) Abort (on_conflict ∷ []) (source ∷ []) n (nothing db) (Ok done)) from (subst (λ l. TriesEach (task limit) Abort (on_conflict ∷ []) l top (nothing db) (Ok done)) is h)) in
      let one : HasPut db w.0.trees = upserts limit db kept w.0 (next_rowid (db 0)) (subst (λ r. Tries (task limit) Abort (on_conflict ∷ []) r db (Ok w.0)) (new_is (db 0)) w.1) in
      subst (HasPut db) (ap (λ (p : Written × ℤ). p.0.trees) (sym (same_value w.2))) one

  -- the row of this table with this key has the text, and no other row is changed
  pub puts_row : (old new : State) (count : ℕ) → old.now.schema ≡ kept_schema → AreKept (old.now.trees 0) → Executes put_text given old new (Ok count)
      → (new.now.schema ≡ kept_schema) × AreKept (new.now.trees 0) × (tables_in (new.now.trees 0) ≡ maps.insert (tables_in (old.now.trees 0)) (t, k) v)
  puts_row old new count has kept h =
      let db = old.now.trees in
      let w = runs_as put_text given old new kept_schema has put_command text_is put_plain count h in
      let text = statement_of put_text (understood kept_schema put_text) in
      let done = went (subst (λ s. Does old.step_limit (mode_of old) given (record old.now { schema = s }) text None put_command (Ok (w.tally, new.now))) has w.changed) in
      let now = ap (λ (p : Tally × Database). p.1) (same_value (went (went done.2).2).2) in
      let sourced = went done.1 in
      let counter = went sourced.2 in
      let all = went counter.2 in
      let counted = went all.2 in
      let put : HasPut db all.0.0.trees = tried old.step_limit db kept sourced.0 (count_of counter.0) all.0 sourced.1.1 (ap count_of (same_value counter.1)) all.1 in
      let trees : done.0.trees ≡ all.0.0.trees = ap (λ (it : Written). it.trees) (same_value counted.2) ∙ same_value counted.1 in
      let is : new.now.trees ≡ all.0.0.trees = ap (λ (d : Database). d.trees) now ∙ trees in
      let whole : HasPut db new.now.trees = subst (HasPut db) (sym is) put in
      (ap (λ (d : Database). d.schema) now, whole.0, whole.1)
