-- As many rows as there are keys with one.
use Rattle.std.proofs.Common.{◌≡◌, ◌≢◌, refl, sym, ap, ◌∙◌, subst, arith, ℕ, zero, suc, ◌-◌, ◌==◌, ◌<◌, ◌≤◌, List, length, Option, Some, None, Bool, true}
use Rattle.std.proofs.Common.{false, cond, is_some, T}
use Rattle.std.specs.List.{filter}
use Rattle.std.specs.Ordering.{eq_by_cmp, is_eq}
use Rattle.std.specs.declared.cmp.Ordering.{Ordering}
use Rattle.std.specs.declared.cmp.Ordering.TheVariants.{Less, Equal, Greater}
use Rattle.std.specs.FinMap as maps
use Rattle.std.specs.FinMap.Entries.{find-where_key, is_sorted-where_key, where_key}
use Rattle.oe_keeper.specs.Kept.{Key, Kept, key_cmp, key_cmp_total}
use Rattle.oe_keeper.proofs.Keys.{key_cmp-same}

equal : (o : Ordering) → is_eq o ≡ true → o ≡ Equal
equal Less h = absurd (cc (h))
equal Equal h = refl
equal Greater h = absurd (cc (h))

other : (b : Bool) (q k : Key) → eq_by_cmp key_cmp q k ≡ b → q ≢ k → b ≡ false
other true q k e apart = absurd (apart (key_cmp-same q k (equal (key_cmp q k) e)))
other false q k e apart = refl

there : (o : Option (List ℕ)) → o ≢ None → is_some o ≡ true
there None h = absurd (h refl)
there (Some x) h = refl

taken_out : (m : Kept) (k : Key) → maps.get m k ≢ None → maps.len (maps.remove m k) ≡ maps.len m - 1
taken_out m k h = maps.len-remove key_cmp_total m k ∙ ap (λ b. cond b (maps.len m - 1) (maps.len m)) (there (maps.get m k) h)

left_there : (m : Kept) (k q : Key) → q ≢ k → maps.get (maps.remove m k) q ≡ maps.get m q
left_there m k q apart = maps.get-remove key_cmp_total m k q ∙ ap (λ b. cond b None (maps.get m q)) (other (eq_by_cmp key_cmp q k) q k refl apart)

no_rows : (m : Kept) (k : Key) → maps.len m ≡ 0 → maps.get m k ≡ None
no_rows m k none = ap (λ (n : Kept). maps.get n k) (maps.empty_of_len m none) ∙ maps.get-empty key_cmp k

some_rows : (m : Kept) (k : Key) (n : ℕ) → maps.len m ≡ n → maps.get m k ≢ None → 1 ≤ n
some_rows m k zero none h = absurd (h (no_rows m k none))
some_rows m k (suc n) e h = omega arith

-- there are as many rows as there are keys of rows, none of which is another
pub as_many_rows : (count : ℕ) (m : Kept) (key : ℕ → Key) → ((i : ℕ) → i < count → maps.get m (key i) ≢ None) → ((i j : ℕ) → i < j → j < count → key i ≢ key j)
    → count ≤ maps.len m
as_many_rows zero m key found apart = omega arith
as_many_rows (suc count) m key found apart =
    let here : maps.get m (key count) ≢ None = found count (omega arith) in
    let rest : count ≤ maps.len (maps.remove m (key count)) =
    as_many_rows count (maps.remove m (key count)) key
    (λ i l none. found i (omega (arith, l)) (sym (left_there m (key count) (key i) (apart i count l (omega arith))) ∙ none))
    (λ i j l k. apart i j l (omega (arith, k))) in
    omega (arith, rest, taken_out m (key count) here, some_rows m (key count) (maps.len m) refl here)

-- ---- the rows of one table

abbrev is_of_table : ℕ → Key → Bool
is_of_table t k = k.0 == t

alike : (t : ℕ) (q x : Key) → key_cmp q x ≡ Equal → is_of_table t x ≡ is_of_table t q
alike t q x e = ap (λ (k : Key). k.0 == t) (sym (key_cmp-same q x e))

table_rows : ℕ → Kept → Kept
table_rows t m = maps.from_sorted (where_key key_cmp (is_of_table t) (maps.entries m))

sorted_rows : (t : ℕ) (m : Kept) → T (maps.is_sorted key_cmp (where_key key_cmp (is_of_table t) (maps.entries m)))
sorted_rows t m = is_sorted-where_key key_cmp (is_of_table t) (maps.entries m) (maps.entries_sorted m)

table_row : (t : ℕ) (m : Kept) (k : Key) → (k.0 == t) ≡ true → maps.get (table_rows t m) k ≡ maps.get m k
unfolding table_rows
table_row t m k at =
    maps.get-from_sorted key_cmp (where_key key_cmp (is_of_table t) (maps.entries m)) k (sorted_rows t m)
    ∙ find-where_key key_cmp (is_of_table t) k (alike t k) (maps.entries m) ∙ ap (λ b. cond b (maps.find key_cmp k (maps.entries m)) None) at
    ∙ sym (maps.get-entries m k)

counted : (t : ℕ) (m : Kept) → maps.len (table_rows t m) ≡ length (filter (λ (r : Key × List ℕ). r.0.0 == t) (maps.entries m))
unfolding table_rows
counted t m =
    maps.len-entries (table_rows t m) ∙ ap length (maps.entries-from_sorted key_cmp (where_key key_cmp (is_of_table t) (maps.entries m)) (sorted_rows t m))

pub as_many_in_table : (t count : ℕ) (m : Kept) (key : ℕ → List ℕ) → (t == t) ≡ true → ((i : ℕ) → i < count → maps.get m (t, key i) ≢ None)
    → ((i j : ℕ) → i < j → j < count → key i ≢ key j)
    → count ≤ length (filter (λ (r : Key × List ℕ). r.0.0 == t) (maps.entries m))
as_many_in_table t count m key same found apart =
    subst (λ n. count ≤ n) (counted t m)
    (as_many_rows count (table_rows t m) (λ i. (t, key i)) (λ i l none. found i l (sym (table_row t m (t, key i) same) ∙ none))
    (λ i j l k e. apart i j l k (ap (λ (x : Key). x.1) e)))
