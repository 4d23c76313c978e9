-- Rows in order: a row that is put or removed where a search finds its place.
use Rattle.std.proofs.Common.{◌≡◌, ℕ, suc, zero, ◌-◌, ◌≤◌, T, Bool, true, false, cond, not, ◌&&◌, List, [], ◌∷◌, map, length, get_or, Option, Some, None, Err, refl, sym, ap, subst, ◌∙◌, arith}
use Rattle.std.specs.declared.cmp.Ordering.{Ordering}
use Rattle.std.specs.declared.cmp.Ordering.TheVariants.{Less, Equal, Greater}
use Rattle.std.specs.Ordering.{is_lt, is_eq, ordering_index, eq_by_cmp}
use Rattle.std.specs.List.{All}
use Rattle.std.specs.Prelude.{slice_get, option_copied}
use Rattle.std.proofs.Common.{Bor}
use Rattle.std.specs.Option.{option_map}
use Rattle.std.specs.Cmp.{alike_right, eq_by_cmp_equiv}
use Rattle.std.proofs.lemmas.List.{length-map}
use Rattle.std.specs.List.Sorted.{IsBinarySearchResult}
use Rattle.std.specs.FinMap as maps
use Rattle.std.specs.FinMap.{find, put, is_sorted, entries-from_sorted, entries-insert, same_entries_map, same_map, get-from_sorted, get-remove, empty_of_len, len-entries}
use Rattle.std.specs.FinMap.Entries.{where_key, below_all, is_sorted-put, is_sorted-where_key, find-where_key, by_order}
use Rattle.std.proofs.lemmas.List.Elements.{All-nil, All-cons}
use Rattle.ordered_list.specs.Ordered.{Rises, put_by, removed_by}
use Rattle.ordered_list.specs.Ordered as listed
use Rattle.oe_keeper.specs.Kept.{Key, Kept, key_cmp, key_cmp_total, place}
use Rattle.oe_keeper.specs.Walk.{pair_of, key_of}
use Rattle.oe_keeper.specs.declared.rows.Entry.{Entry}
use Rattle.oe_keeper.proofs.Keys.{key_cmp-same}

abbrev pub Pairs : Type 0
Pairs = List (Key × List ℕ)

abbrev pub IsRising : List Entry → Type 0
IsRising es = T (is_sorted key_cmp (map pair_of es))

abbrev pub seen : List Entry → Kept
seen es = maps.from_sorted (map pair_of es)

left_of : (a b : Bool) → T (a && b) → T a
left_of true b p = tt
left_of false b p = p

right_of : (a b : Bool) → T (a && b) → T b
right_of true b p = p
right_of false b p = absurd p

less : (o : Ordering) → T (is_lt o) → o ≡ Less
less Less p = refl
less Equal p = absurd p
less Greater p = absurd p

below : (k : Key) (es : List Entry) → T (below_all key_cmp k (map pair_of es)) → All (λ e. key_cmp k (key_of e) ≡ Less) es
below k [] h = All-nil (λ e. key_cmp k (key_of e) ≡ Less)
below k (e ∷ es) h = All-cons (λ e. key_cmp k (key_of e) ≡ Less) e es (less _ (left_of _ _ h)) (below k es (right_of _ _ h))

pub rises : (es : List Entry) → IsRising es → Rises key_cmp key_of es
rises [] h = tt
rises (e ∷ es) h = (below (key_of e) es (left_of _ _ h), rises es (right_of _ _ h))

-- the map's put is the list's
put_step : (x y : Entry) (ys : List Entry) (o : Ordering) → key_cmp (key_of x) (key_of y) ≡ o → map pair_of (put_by key_cmp key_of x ys) ≡ put key_cmp (key_of x) (pair_of x).1 (map pair_of ys)
    → map pair_of (listed.by_order o (x ∷ y ∷ ys) (x ∷ ys) (y ∷ put_by key_cmp key_of x ys))
    ≡ by_order o (pair_of x ∷ pair_of y ∷ map pair_of ys) ((key_of y, (pair_of x).1) ∷ map pair_of ys) (pair_of y ∷ put key_cmp (key_of x) (pair_of x).1 (map pair_of ys))
put_step x y ys Less e r = refl
put_step x y ys Equal e r = ap (λ k. (k, (pair_of x).1) ∷ map pair_of ys) (key_cmp-same (key_of x) (key_of y) e)
put_step x y ys Greater e r = ap (λ l. pair_of y ∷ l) r

pub put_pairs : (x : Entry) (ys : List Entry) → map pair_of (put_by key_cmp key_of x ys) ≡ put key_cmp (key_of x) (pair_of x).1 (map pair_of ys)
put_pairs x [] = refl
put_pairs x (y ∷ ys) = put_step x y ys (key_cmp (key_of x) (key_of y)) refl (put_pairs x ys)

abbrev other : Key → Key → Bool
other k x = not (eq_by_cmp key_cmp k x)

removed_step : (k : Key) (y : Entry) (ys : List Entry) (o : Ordering) → map pair_of (removed_by key_cmp key_of k ys) ≡ where_key key_cmp (other k) (map pair_of ys)
    → map pair_of (cond (is_eq o) (removed_by key_cmp key_of k ys) (y ∷ removed_by key_cmp key_of k ys))
    ≡ cond (not (is_eq o)) (pair_of y ∷ where_key key_cmp (other k) (map pair_of ys)) (where_key key_cmp (other k) (map pair_of ys))
removed_step k y ys Less r = ap (λ l. pair_of y ∷ l) r
removed_step k y ys Equal r = r
removed_step k y ys Greater r = ap (λ l. pair_of y ∷ l) r

pub removed_pairs : (k : Key) (ys : List Entry) → map pair_of (removed_by key_cmp key_of k ys) ≡ where_key key_cmp (other k) (map pair_of ys)
removed_pairs k [] = refl
removed_pairs k (y ∷ ys) = removed_step k y ys (key_cmp k (key_of y)) (removed_pairs k ys)

-- new rows that are the old ones with a row put: they rise, and are seen as the map with it
pub record Becomes (new : List Entry) (rows : Kept) : Type 0 where
  pub rising : IsRising new
  pub seen_as : seen new ≡ rows

pub put_becomes : (x : Entry) (old new : List Entry) (k : Key) (v : List ℕ) → IsRising old → pair_of x ≡ (k, v) → new ≡ put_by key_cmp key_of x old → Becomes new (maps.insert (seen old) k v)
put_becomes x old new k v r p e =
    let pairs : map pair_of new ≡ put key_cmp k v (map pair_of old) = ap (map pair_of) e ∙ put_pairs x old ∙ ap (λ (q : Key × List ℕ). put key_cmp q.0 q.1 (map pair_of old)) p in
    let up : IsRising new = subst (λ l. T (is_sorted key_cmp l)) (sym pairs) (is_sorted-put key_cmp key_cmp_total k v (map pair_of old) r) in
    record { rising = up; seen_as = same_entries_map _ _ (entries-from_sorted key_cmp (map pair_of new) up ∙ pairs ∙ ap (put key_cmp k v) (sym (entries-from_sorted key_cmp (map pair_of old) r)) ∙ sym (entries-insert key_cmp_total (seen old) k v)) }

turned : {A : Type 0} (b : Bool) (x y : A) → cond (not b) x y ≡ cond b y x
turned true x y = refl
turned false x y = refl

pub removed_becomes : (old new : List Entry) (k : Key) → IsRising old → new ≡ removed_by key_cmp key_of k old → Becomes new (maps.remove (seen old) k)
removed_becomes old new k r e =
    let pairs : map pair_of new ≡ where_key key_cmp (other k) (map pair_of old) = ap (map pair_of) e ∙ removed_pairs k old in
    let up : IsRising new = subst (λ l. T (is_sorted key_cmp l)) (sym pairs) (is_sorted-where_key key_cmp (other k) (map pair_of old) r) in
    record {
      rising = up;
      seen_as = same_map key_cmp_total key_cmp-same _ _ (λ q. get-from_sorted key_cmp (map pair_of new) q up ∙ ap (find key_cmp q) pairs
          ∙ find-where_key key_cmp (other k) q (λ x t. ap (λ o. not (is_eq o)) (sym (alike_right key_cmp_total q x k t))) (map pair_of old)
          ∙ turned (eq_by_cmp key_cmp k q) _ _ ∙ ap (λ b. cond b None (find key_cmp q (map pair_of old))) ((eq_by_cmp_equiv key_cmp_total).symm k q)
          ∙ ap (cond (eq_by_cmp key_cmp q k) None) (sym (get-from_sorted key_cmp (map pair_of old) q r)) ∙ sym (get-remove key_cmp_total _ k q));
    }

-- a key above the last is above all
zero_less : (o : Ordering) → ordering_index o ≤ ordering_index Less → o ≡ Less
zero_less Less h = refl
zero_less Equal h = absurd (omega arith)
zero_less Greater h = absurd (omega arith)

pub above_all : (xs : List Entry) (o : Option (Bor Entry)) (last : Bor Entry) (k : Key) → option_copied o ≡ slice_get xs (length xs - 1) → o ≡ Some last → key_cmp (key_of last.now) k ≡ Less
    → IsBinarySearchResult (λ e. key_cmp (key_of e) k) xs (Err (length xs))
above_all xs o last k at is h up = (
  λ j d a b. zero_less _ (let there : get_or xs (length xs - 1) d ≡ last.now = slice_get-get_or xs (length xs - 1) d last.now (sym at ∙ ap option_copied is) in
      subst (λ o. ordering_index (key_cmp (key_of (get_or xs j d)) k) ≤ ordering_index o) (ap (λ e. key_cmp (key_of e) k) there ∙ h) (up j (length xs - 1) d (omega arith) (omega arith))),
  λ j d a b. absurd (omega arith),
)
  where
    slice_get-get_or : (ys : List Entry) (i : ℕ) (d y : Entry) → slice_get ys i ≡ Some y → get_or ys i d ≡ y
    slice_get-get_or [] i d y e = absurd cc
    slice_get-get_or (x ∷ ys) zero d y e = cc
    slice_get-get_or (x ∷ ys) (suc i) d y e = slice_get-get_or ys i d y e

-- what is read of the rows
pub seen_entries : (es : List Entry) → IsRising es → maps.entries (seen es) ≡ map pair_of es
seen_entries es r = entries-from_sorted key_cmp (map pair_of es) r

pub seen_empty : seen [] ≡ maps.empty
seen_empty = empty_of_len (seen []) (len-entries (seen []) ∙ ap length (seen_entries [] tt))

pub seen_len : (es : List Entry) → IsRising es → maps.len (seen es) ≡ length es
seen_len es r = len-entries (seen es) ∙ ap length (seen_entries es r) ∙ length-map es pair_of

got : (es : List Entry) (i : ℕ) → slice_get (map pair_of es) i ≡ option_map pair_of (slice_get es i)
got [] i = refl
got (e ∷ es) zero = refl
got (e ∷ es) (suc i) = got es i

pub seen_nth : (es : List Entry) (i : ℕ) → IsRising es → slice_get (maps.entries (seen es)) i ≡ option_map pair_of (slice_get es i)
seen_nth es i r = ap (λ l. slice_get l i) (seen_entries es r) ∙ got es i

pub same_rising : (es ds : List Entry) → map pair_of ds ≡ map pair_of es → IsRising es → IsRising ds
same_rising es ds e r = subst (λ l. T (is_sorted key_cmp l)) (sym e) r

pub nth_some : (es : List Entry) (o : Option (Bor Entry)) (e : Bor Entry) (zs : List Entry) (i : ℕ) (m : Kept) (k v : List ℕ) → IsRising es → seen es ≡ m → zs ≡ es → option_copied o ≡ slice_get zs i → o ≡ Some e
    → k ≡ e.now.key → v ≡ e.now.row → Some ((place e.now.table, k), v) ≡ slice_get (maps.entries m) i
nth_some es o e zs i m k v r s z at is p q =
    (λ j. Some ((place e.now.table, p j), q j)) ∙ ap (option_map pair_of) (sym (ap option_copied is) ∙ at ∙ ap (λ l. slice_get l i) z) ∙ sym (seen_nth es i r) ∙ ap (λ n. slice_get (maps.entries n) i) s

pub nth_none : (es : List Entry) (o : Option (Bor Entry)) (zs : List Entry) (i : ℕ) (m : Kept) → IsRising es → seen es ≡ m → zs ≡ es → option_copied o ≡ slice_get zs i → o ≡ None → None ≡ slice_get (maps.entries m) i
nth_none es o zs i m r s z at is =
    ap (option_map pair_of) (sym (ap option_copied is) ∙ at ∙ ap (λ l. slice_get l i) z) ∙ sym (seen_nth es i r) ∙ ap (λ n. slice_get (maps.entries n) i) s
