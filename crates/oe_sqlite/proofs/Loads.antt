-- What the texts that make the table and read it do.
use Rattle.std.proofs.Common.{◌≡◌, inl, inr, ℕ, T, Bool, true, false, cond, List, [], ◌∷◌, map, None, Some, Ok, refl, sym, ap, subst, ◌∙◌}
use Rattle.std.specs.Ordering.{eq_by_cmp}
use Rattle.std.specs.FinMap as maps
use Rattle.std.specs.FinMap.{find, get-from_entries, get-entries, same_map}
use Rattle.sqlite_value.specs.declared.value.Value.TheVariants.{Null}
use Rattle.sqlite_value.specs.Order.{Row}
use Rattle.sqlite_value.specs.Keys.{ascending}
use Rattle.sqlite_value.specs.declared.keys.Collation.TheVariants.{Binary}
use Rattle.sqlite_trees.specs.Tree.{Trees}
use Rattle.sqlite_sql.specs.Term.{Term, col, eval_all}
use Rattle.sqlite_sql.specs.Program.{overlay}
use Rattle.sqlite_rules.specs.Lists.{Has}
use Rattle.sqlite_schema.specs.declared.command.Command.TheVariants.{CreateTable, Nothing}
use Rattle.sqlite_catalog.specs.Change.{created, next_tree}
use Rattle.sqlite.specs.Effect.{Database}
use Rattle.sqlite.specs.Does.{Tally, lacks_sequence}
use Rattle.sqlite.specs.State.{State, Writes, Executes, Shown, IsUnchanged}
use Rattle.sqlite.proofs.Callers.{runs_as, reads_as}
use Rattle.oe_keeper.specs.Kept.{Key, key_cmp, Kept}
use Rattle.oe_sqlite.specs.Model.{pair_in, pair_shown, tables_in, AreKept}
use Rattle.oe_sqlite.specs.Shape.{create_text, select_text, kept, no_schema, kept_schema}
use Rattle.oe_sqlite.proofs.Texts.{create_is, created_is, create_plain, again_is, again_plain, select_command, select_is, select_plain}
use Rattle.oe_sqlite.proofs.Answers.{AreShown, are_shown}
use Rattle.sqlite_rules.proofs.ProbeLemmas.{has_mapped, mapped_has}
use Rattle.oe_keeper.specs.Kept.{key_cmp_total}
use Rattle.oe_keeper.proofs.Keys.{key_cmp-same}
use Rattle.oe_sqlite.proofs.Changed.{equal, sought}
use Rattle.oe_sqlite.proofs.Removes.{went, same_value}

-- over a store that has nothing, the text makes the table, with no row
pub creates : (old new : State) (count : ℕ) → old.now.schema ≡ no_schema → Executes create_text [] old new (Ok count) → (new.now.schema ≡ kept_schema) × (new.now.trees 0 ≡ [])
creates old new count has h =
    let w = subst (λ t. Writes old new None CreateTable t [] count) create_is.1 (runs_as create_text [] old new no_schema has CreateTable create_is.0 create_plain count h) in
    let all = went w.changed in
    let first = went all.1 in
    let made = first.1 in
    let both : Ok made.table ≡ Ok kept = sym made.defined ∙ create_is.2 in
    let same : made.table ≡ kept = cc in
    let schema : first.0.schema ≡ kept_schema = made.is ∙ ap (λ s. created s made.table) has ∙ ap (created no_schema) same ∙ created_is in
    let plain : lacks_sequence first.0.schema ≡ false = ap lacks_sequence schema in
    let now : new.now ≡ first.0 = ap (λ (p : Tally × Database). p.1) (same_value all.2) ∙ same_value (rw plain at first.2) in
    (ap (λ (d : Database). d.schema) now ∙ schema, ap (λ (d : Database). d.trees 0) now ∙ subst (λ s. first.0.trees (next_tree s) ≡ []) has made.empty)

-- over the table it does nothing
pub stays : (old new : State) (count : ℕ) → old.now.schema ≡ kept_schema → Executes create_text [] old new (Ok count) → IsUnchanged old new
stays old new count has h = (runs_as create_text [] old new kept_schema has Nothing again_is again_plain count h).0

pub none_kept : AreKept []
none_kept = record { rising = tt; entries = λ x h. absurd h; keyed = λ x y h g e. absurd h }

abbrev shows : List Term
shows = col 1 1 ∷ col 1 2 ∷ col 1 3 ∷ []

-- the answer shows the rows of the table, and no other
pub selects : (old new : State) (rows : List Row) → old.now.schema ≡ kept_schema → Shown select_text [] old new rows → AreShown [] shows old.now.trees [] rows
selects old new rows has h =
    let read = reads_as select_text [] old new kept_schema has select_command select_is.0 select_plain select_is.1 rows h in
    let over = are_shown [] shows (overlay old.now.trees []) [] ((col 1 1, ascending Binary) ∷ (col 1 2, ascending Binary) ∷ []) rows (read.answer Null) in
    record { sound = over.sound; complete = over.complete }

abbrev ties : Key → Key × List ℕ → Bool
ties q e = eq_by_cmp key_cmp q e.0

tied_is : (q : Key) (e : Key × List ℕ) → T (ties q e) → q ≡ e.0
tied_is q e h = key_cmp-same q e.0 (equal _ h)

module _ (q : Key) where
  past : (es : List (Key × List ℕ)) (f e : Key × List ℕ) → Has (f ∷ es) e → T (ties q e) → ties q f ≡ false → Has es e
  past es f e (inl same) tied not = absurd (subst T not (subst (λ x. T (ties q x)) same tied))
  past es f e (inr h) tied not = h

  one : (es : List (Key × List ℕ)) (e : Key × List ℕ) → Has es e → T (ties q e) → ((x : Key × List ℕ) → Has es x → T (ties q x) → x ≡ e) → find key_cmp q es ≡ Some e.1
  one [] e has tied only = absurd has
  one (f ∷ es) e has tied only =
      elim (ties q f) as (λ b. ties q f ≡ b → cond b (Some f.1) (find key_cmp q es) ≡ Some e.1) [
        | true ↦ λ p. ap (λ (x : Key × List ℕ). Some x.1) (only f (inl refl) (subst T (sym p) tt))
        | false ↦ λ p. one es e (past es f e has tied p) tied (λ x h. only x (inr h))
      ] refl

  none : (es : List (Key × List ℕ)) → ((x : Key × List ℕ) → Has es x → ¬ T (ties q x)) → find key_cmp q es ≡ None
  none [] no_one = refl
  none (f ∷ es) no_one =
      elim (ties q f) as (λ b. ties q f ≡ b → cond b (Some f.1) (find key_cmp q es) ≡ None) [
        | true ↦ λ p. absurd (no_one f (inl refl) (subst T (sym p) tt))
        | false ↦ λ p. none es (λ x h. no_one x (inr h))
      ] refl

-- the answer has the rows of the table, as the map has them
module _ (db : Trees) (kept : AreKept (db 0)) (rows : List Row) (all : AreShown [] shows db [] rows) where
  abbrev of_table : List (Key × List ℕ)
  of_table = map pair_in (db 0)

  abbrev of_answer : List (Key × List ℕ)
  of_answer = map pair_shown rows

  from_table : (e : Key × List ℕ) → Has of_table e → Has of_answer e
  from_table e h =
      let r = has_mapped pair_in (db 0) e h in
      subst (Has of_answer) (sym r.2) (mapped_has pair_shown rows (eval_all shows ([] ∷ r.0 ∷ [])) (all.complete r.0 r.1 refl))

  to_table : (e : Key × List ℕ) → Has of_answer e → Has of_table e
  to_table e h =
      let x = has_mapped pair_shown rows e h in
      let r = all.sound x.0 x.1 in
      subst (Has of_table) (sym (x.2 ∙ ap pair_shown r.3)) (mapped_has pair_in (db 0) r.0 r.1)

  once : (a b : Key × List ℕ) → Has of_table a → Has of_table b → a.0 ≡ b.0 → a ≡ b
  once a b h g same =
      let r = has_mapped pair_in (db 0) a h in
      let s = has_mapped pair_in (db 0) b g in
      r.2 ∙ ap pair_in (kept.keyed r.0 s.0 r.1 s.1 (sym (ap (λ (e : Key × List ℕ). e.0) r.2) ∙ same ∙ ap (λ (e : Key × List ℕ). e.0) s.2)) ∙ sym s.2

  pub same_find : (q : Key) → find key_cmp q of_answer ≡ find key_cmp q of_table
  same_find q = elim (sought q (db 0)) [
    | inl it ↦
        let e = pair_in it.0 in
        let there = mapped_has pair_in (db 0) it.0 it.1 in
        one q of_answer e (from_table e there) it.2 (λ x h t. once x e (to_table x h) there (sym (tied_is q x t) ∙ tied_is q e it.2))
        ∙ sym (one q of_table e there it.2 (λ x h t. once x e h there (sym (tied_is q x t) ∙ tied_is q e it.2)))
    | inr no_one ↦
        let missing = λ (x : Key × List ℕ) (h : Has of_table x) (t : T (ties q x)). (let r = has_mapped pair_in (db 0) x h in no_one r.0 r.1 (subst (λ e. T (ties q e)) r.2 t)) in
        none q of_answer (λ x h t. missing x (to_table x h) t) ∙ sym (none q of_table missing)
  ]

  -- so rows that are walked as the answer is are those of the table
  pub loaded : (tables : Kept) → maps.entries tables ≡ of_answer → tables_in (db 0) ≡ tables
  loaded tables is = same_map key_cmp_total key_cmp-same _ _ (λ q. get-from_entries key_cmp_total of_table q ∙ sym (same_find q) ∙ ap (find key_cmp q) (sym is) ∙ sym (get-entries tables q))

  pub loaded_entries : (tables : Kept) → tables ≡ maps.from_entries of_answer → tables_in (db 0) ≡ tables
  loaded_entries tables is = same_map key_cmp_total key_cmp-same _ _ (λ q. get-from_entries key_cmp_total of_table q ∙ sym (same_find q) ∙ sym (get-from_entries key_cmp_total of_answer q) ∙ ap (λ m. maps.get m q) (sym is))
