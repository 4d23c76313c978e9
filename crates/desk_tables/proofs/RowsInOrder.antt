-- A row among the rows of tables, in order of table and key.
use Rattle.std.proofs.Common.{◌≡◌, refl, sym, ap, ◌∙◌, subst, ℕ, List, [], ◌∷◌, ◌++◌, None, Some, Bool, true, false, cond, ◌&&◌, T}
use Rattle.std.specs.declared.cmp.Ordering.{Ordering}
use Rattle.std.specs.declared.cmp.Ordering.TheVariants.{Less, Equal, Greater}
use Rattle.std.specs.Ordering.{is_lt, is_eq, ordering_reverse, eq_by_cmp}
use Rattle.std.specs.Cmp.{IsTotalOrder}
use Rattle.std.specs.FinMap as maps
use Rattle.std.specs.FinMap.Entries.{below_all}
use Rattle.std.proofs.lemmas.Cmp.{tied_itself}
use Rattle.oe_keeper.specs.Kept.{Key, Kept, key_cmp, key_cmp_total}

abbrev Row : Type 0
Row = Key × List ℕ

-- the tables have the row; it is not among those so far; and below it those so far are all that the tables have
pub record ComesAt (whole so_far : Kept) (r : Row) : Type 0 where
  pub here : maps.get whole r.0 ≡ Some r.1
  pub new : maps.get so_far r.0 ≡ None
  pub below : (k : Key) → key_cmp k r.0 ≡ Less → maps.get so_far k ≡ maps.get whole k

first : (a b : Bool) → T (a && b) → T a
first true b p = tt
first false b p = p

second : (a b : Bool) → T (a && b) → T b
second true b p = p
second false b p = absurd p

less : (o : Ordering) → T (is_lt o) → o ≡ Less
less Less p = refl
less Equal p = absurd p
less Greater p = absurd p

turned : (a b : Key) → key_cmp a b ≡ Less → eq_by_cmp key_cmp b a ≡ false
turned a b l = ap is_eq (IsTotalOrder.antisymm key_cmp_total b a) ∙ ap (λ o. is_eq (ordering_reverse o)) l

before : (k : Key) (xs rs : List Row) (r : Row) → T (below_all key_cmp k (xs ++ r ∷ rs)) → key_cmp k r.0 ≡ Less
before k [] rs r h = less (key_cmp k r.0) (first _ _ h)
before k (x ∷ xs) rs r h = before k xs rs r (second (is_lt (key_cmp k x.0)) _ h)

none_below : (k j : Key) (es : List Row) → key_cmp k j ≡ Less → T (below_all key_cmp j es) → maps.find key_cmp k es ≡ None
none_below k j [] l h = refl
none_below k j (e ∷ es) l h =
    let under : key_cmp k e.0 ≡ Less = IsTotalOrder.trans key_cmp_total k j e.0 l (less (key_cmp j e.0) (first _ _ h)) in
    ap (λ o. cond (is_eq o) (Some e.1) (maps.find key_cmp k es)) under ∙ none_below k j es l (second (is_lt (key_cmp j e.0)) _ h)

module _ (rs : List Row) (r : Row) where
  new_here : (xs : List Row) → T (maps.is_sorted key_cmp (xs ++ r ∷ rs)) → maps.find key_cmp r.0 xs ≡ None
  new_here [] h = refl
  new_here (x ∷ xs) h =
      ap (λ b. cond b (Some x.1) (maps.find key_cmp r.0 xs)) (turned x.0 r.0 (before x.0 xs rs r (first (below_all key_cmp x.0 (xs ++ r ∷ rs)) _ h)))
      ∙ new_here xs (second (below_all key_cmp x.0 (xs ++ r ∷ rs)) _ h)

  found_here : (xs : List Row) → T (maps.is_sorted key_cmp (xs ++ r ∷ rs)) → maps.find key_cmp r.0 (xs ++ r ∷ rs) ≡ Some r.1
  found_here [] h = ap (λ o. cond (is_eq o) (Some r.1) (maps.find key_cmp r.0 rs)) (tied_itself key_cmp_total r.0)
  found_here (x ∷ xs) h =
      ap (λ b. cond b (Some x.1) (maps.find key_cmp r.0 (xs ++ r ∷ rs)))
      (turned x.0 r.0 (before x.0 xs rs r (first (below_all key_cmp x.0 (xs ++ r ∷ rs)) _ h)))
      ∙ found_here xs (second (below_all key_cmp x.0 (xs ++ r ∷ rs)) _ h)

  all_below : (k : Key) (xs : List Row) → key_cmp k r.0 ≡ Less → T (maps.is_sorted key_cmp (xs ++ r ∷ rs))
      → maps.find key_cmp k xs ≡ maps.find key_cmp k (xs ++ r ∷ rs)
  all_below k [] l h =
      sym (ap (λ o. cond (is_eq o) (Some r.1) (maps.find key_cmp k rs)) l ∙ none_below k r.0 rs l (first (below_all key_cmp r.0 rs) _ h))
  all_below k (x ∷ xs) l h = ap (cond (eq_by_cmp key_cmp k x.0) (Some x.1)) (all_below k xs l (second (below_all key_cmp x.0 (xs ++ r ∷ rs)) _ h))

pub comes_at : (whole : Kept) (xs rs : List Row) (r : Row) → maps.entries whole ≡ xs ++ r ∷ rs → ComesAt whole (maps.from_entries xs) r
comes_at whole xs rs r rows =
    let sorted : T (maps.is_sorted key_cmp (xs ++ r ∷ rs)) = subst (λ es. T (maps.is_sorted key_cmp es)) rows (maps.entries_sorted whole) in
    record {
      here = maps.get-entries whole r.0 ∙ ap (maps.find key_cmp r.0) rows ∙ found_here rs r xs sorted;
      new = maps.get-from_entries key_cmp_total xs r.0 ∙ new_here rs r xs sorted;
      below = λ k l. maps.get-from_entries key_cmp_total xs k ∙ all_below rs r k xs l sorted ∙ sym (maps.get-entries whole k ∙ ap (maps.find key_cmp k) rows);
    }
