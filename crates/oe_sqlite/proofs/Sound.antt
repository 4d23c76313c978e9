-- A sound database that lists the table alone holds rows of it alone.
use Rattle.std.proofs.Common.{◌≡◌, ℕ, ℤ, pos, negsuc, Bool, true, false, not, ◌&&◌, List, [], ◌∷◌, drop, None, refl, sym, ap, subst, ◌∙◌, arith, int_eq, int_le}
use Rattle.std.specs.Cmp.{tied_itself}
use Rattle.std.proofs.lemmas.Bool.Decides.{nat_tests}
use Rattle.std.proofs.lemmas.Int.{ints}
use Rattle.sqlite_value.specs.declared.value.Value.{Value}
use Rattle.sqlite_value.specs.declared.value.Value.TheVariants.{Null, Int, Real, Text, Blob}
use Rattle.sqlite_value.specs.Order.{Row, value_cmp}
use Rattle.sqlite_value.proofs.OrderLemmas.{value_cmp_total}
use Rattle.sqlite_trees.specs.Tree.{rowid, IsTable}
use Rattle.sqlite_trees.specs.View.{is_int}
use Rattle.sqlite_sql.specs.Ops.{is_null}
use Rattle.sqlite_sql.specs.declared.ops.CompareOp.TheVariants.{Ne, Ge, Le}
use Rattle.sqlite_schema.specs.declared.schema.Kind.TheVariants as kind
use Rattle.sqlite_schema.specs.declared.schema.Constraint.{Constraint}
use Rattle.sqlite_schema.specs.declared.schema.Constraint.TheVariants.{Datatype, NotNull, Check, Unique}
use Rattle.sqlite_schema.specs.Rules.{is_of, passes, Keeps, are_typed, are_present, passes_checks, agree, clashes, differ}
use Rattle.sqlite_rules.specs.Lists.{Has}
use Rattle.sqlite_rules.proofs.ListLemmas.{all_has, some_from}
use Rattle.sqlite_rules.proofs.PlaceLemmas.{tied_same}
use Rattle.sqlite_typed.proofs.TestLemmas.{at_ints, at_and}
use Rattle.sqlite.specs.Effect.{Database, IsDatabase}
use Rattle.oe_sqlite.specs.Shape.{kept, kept_schema, by_bytes}
use Rattle.oe_sqlite.specs.Model.{key_in, IsEntry, AreKept}
use Rattle.sqlite_tied.proofs.RuleLemmas.{checks_are}
use Rattle.oe_sqlite.proofs.Puts.{agrees}

an_int : (v : Value) → is_of kind.Integer v ≡ true → is_null v ≡ false → (z : ℤ) × (v ≡ Int z)
an_int Null h n = absurd cc
an_int (Int z) h n = (z, refl)
an_int (Real x) h n = absurd cc
an_int (Text t) h n = absurd cc
an_int (Blob b) h n = absurd cc

a_text : (v : Value) → is_of kind.Text v ≡ true → is_null v ≡ false → (t : List ℕ) × (v ≡ Text t)
a_text Null h n = absurd cc
a_text (Int z) h n = absurd cc
a_text (Real x) h n = absurd cc
a_text (Text t) h n = (t, refl)
a_text (Blob b) h n = absurd cc

both : (a b : Bool) → (a && b) ≡ true → (a ≡ true) × (b ≡ true)
both true b h = (refl, h)
both false b h = absurd cc

never : false ≡ true → ⊥
never e = absurd cc

not_true : (b : Bool) → not b ≡ true → b ≡ false
not_true true h = absurd cc
not_true false h = refl

id_is : (v : Value) → is_int v ≡ true → (z : ℤ) × (v ≡ Int z)
id_is Null h = absurd cc
id_is (Int z) h = (z, refl)
id_is (Real x) h = absurd cc
id_is (Text t) h = absurd cc
id_is (Blob b) h = absurd cc

not_negative : (z : ℤ) → int_le (pos 0) z ≡ true → (n : ℕ) × (z ≡ pos n)
not_negative (pos n) h = (n, refl)
not_negative (negsuc n) h = absurd (grind (arith, ints, nat_tests))

dead : (a b c : Bool) → (a && (b && (c && false))) ≡ true → ⊥
dead true true true h = absurd cc
dead true true false h = absurd cc
dead true false c h = absurd cc
dead false b c h = absurd cc

scant : (a : Bool) → (a && (false && (false && true))) ≡ true → ⊥
scant true h = absurd cc
scant false h = absurd cc

short : (a b : Bool) → (a && (b && (false && true))) ≡ true → ⊥
short true true h = absurd cc
short true false h = absurd cc
short false b h = absurd cc

-- the values of the columns, and no more
entry_of : (row : Row) → is_int (rowid row) ≡ true → are_typed None 0 kept.columns (drop 1 row) ≡ true → are_present None 0 kept.columns row ≡ true
    → (id : ℤ) × (z : ℤ) × (k : List ℕ) × (v : List ℕ) × (row ≡ Int id ∷ Int z ∷ Text k ∷ Text v ∷ [])
entry_of [] i h p = absurd cc
entry_of (r ∷ []) i h p = absurd cc
entry_of (r ∷ a ∷ []) i h p = absurd (scant (not (is_null a)) p)
entry_of (r ∷ a ∷ b ∷ []) i h p = absurd (short (not (is_null a)) (not (is_null b)) p)
entry_of (r ∷ a ∷ b ∷ c ∷ []) i h p =
    let h1 = both _ _ h in let h2 = both _ _ h1.1 in let h3 = both _ _ h2.1 in
    let p1 = both _ _ p in let p2 = both _ _ p1.1 in let p3 = both _ _ p2.1 in
    let id = id_is r i in
    let z = an_int a h1.0 (not_true _ p1.0) in
    let k = a_text b h2.0 (not_true _ p2.0) in
    let v = a_text c h3.0 (not_true _ p3.0) in
    (id.0, z.0, k.0, v.0, (λ i. id.1 i ∷ z.1 i ∷ k.1 i ∷ v.1 i ∷ []))
entry_of (r ∷ a ∷ b ∷ c ∷ d ∷ more) i h p = absurd (dead (is_of kind.Integer a) (is_of kind.Text b) (is_of kind.Text c) h)

module _ (db : Database) (has : db.schema ≡ kept_schema) (sound : IsDatabase db) (rising : IsTable (db.trees 0)) (numbered : (x : Row) → Has (db.trees 0) x → is_int (rowid x) ≡ true) where
  obeyed : (rule : Constraint) (x : Row) → Has (db.trees 0) x → passes rule kept_schema db.trees kept x ≡ true
  obeyed rule x h = all_has (λ row. passes rule kept_schema db.trees kept row ≡ true) (db.trees 0) x (subst (λ s. Keeps rule s db.trees) has (sound.obeys.rules rule)).0 h

  shaped : (x : Row) → Has (db.trees 0) x → (id : ℤ) × (z : ℤ) × (k : List ℕ) × (v : List ℕ) × (x ≡ Int id ∷ Int z ∷ Text k ∷ Text v ∷ [])
  shaped x h = entry_of x (numbered x h) (both _ _ (obeyed Datatype x h)).0 (obeyed NotNull x h)

  entry : (x : Row) → Has (db.trees 0) x → IsEntry x
  entry x h =
      let e = shaped x h in
      let check = subst (λ r. passes_checks kept r ≡ true) e.4 (obeyed Check x h) in
      let row : Row = Int e.0 ∷ Int e.1 ∷ Text e.2 ∷ Text e.3 ∷ [] in
      let held = both _ _ (sym (checks_are kept.checks ([] ∷ row ∷ [])) ∙ check) in
      let tests = both _ _ (sym (at_and true _ _ (at_ints true Ge e.1 (pos 0)) (at_ints true Le e.1 (pos 4))) ∙ held.0) in
      let n = not_negative e.1 tests.0 in
      record { id = e.0; table = n.0; key = e.2; text = e.3; is = e.4 ∙ ap (λ z. Int e.0 ∷ Int z ∷ Text e.2 ∷ Text e.3 ∷ []) n.1 }

  keyed : (x y : Row) → Has (db.trees 0) x → Has (db.trees 0) y → key_in x ≡ key_in y → x ≡ y
  keyed x y h g same =
      let a = entry x h in
      let b = entry y g in
      let agreed : agree by_bytes (1 ∷ 2 ∷ []) x (1 ∷ 2 ∷ []) y ≡ true = subst (λ r. agree by_bytes (1 ∷ 2 ∷ []) x (1 ∷ 2 ∷ []) r ≡ true) (sym b.is) (agrees b.table b.key b.text x b.id a (same ∙ ap key_in b.is)) in
      let apart : clashes by_bytes (1 ∷ 2 ∷ []) (db.trees 0) y ≡ false = not_true _ (both _ _ (obeyed Unique y g)).0 in
      let bound : differ (rowid x) (rowid y) ≡ not (int_eq a.id b.id) = ap (λ v. differ v (rowid y)) (ap rowid a.is) ∙ ap (differ (Int a.id)) (ap rowid b.is) ∙ at_ints false Ne a.id b.id in
      let tied : int_eq a.id b.id ≡ true → x ≡ y =
      λ t. let one : a.id ≡ b.id = grind (arith, ints, nat_tests) in
      tied_same (db.trees 0) x y rising h g (ap (λ v. value_cmp v (rowid y)) (ap rowid a.is) ∙ ap (value_cmp (Int a.id)) (ap rowid b.is) ∙ ap (λ n. value_cmp (Int n) (Int b.id)) one ∙ tied_itself value_cmp_total (Int b.id)) in
      elim (int_eq a.id b.id) as (λ t. int_eq a.id b.id ≡ t → x ≡ y) [
        | true ↦ tied
        | false ↦ λ t. absurd (let clash = some_from (λ other. agree by_bytes (1 ∷ 2 ∷ []) other (1 ∷ 2 ∷ []) y && differ (rowid other) (rowid y)) (db.trees 0) x h (rw (agreed, bound ∙ ap not t) refl) in let never = sym clash ∙ apart in cc)
      ] refl

  pub are_kept : AreKept (db.trees 0)
  are_kept = record { rising = rising; entries = entry; keyed = keyed }
