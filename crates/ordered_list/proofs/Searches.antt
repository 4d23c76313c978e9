-- What a search of a list says of the list: xs is the list, zs what was searched, the same list.
use Rattle.std.proofs.Common.{◌≡◌, ℕ, ◌<◌, ◌≤◌, List, Some, None, Ok, Err, length, sym, ◌∙◌, ap, get_or, set}
use Rattle.std.specs.List.{insert, remove}
use Rattle.std.specs.List.Sorted.{IsBinarySearchResult}
use Rattle.std.specs.Cmp.{IsTotalOrder}
use Rattle.std.specs.declared.cmp.Ordering.{Ordering}
use Rattle.ordered_list.specs.Ordered.{Rises, found_by, put_by, removed_by}
use Rattle.ordered_list.proofs.Places.{search_found, search_missing, search_set, search_insert}
use Rattle.ordered_list.proofs.Removal.{search_removed, search_kept}

module _ {T K : Type 0} (cmp : K → K → Ordering) (total : IsTotalOrder cmp) (key : T → K) where
  -- x is the item that was read at the place
  pub search_read : (k : K) (xs zs : List T) (i : ℕ) (x : T) → Rises cmp key xs → zs ≡ xs → i < length zs → IsBinarySearchResult (λ y. cmp (key y) k) zs (Ok i) → x ≡ get_or xs i x → Some x ≡ found_by cmp key k xs
  search_read k xs zs i x r e l h a = ap Some a ∙ sym (search_found cmp total key k xs i x r (rw e at l) (rw e at h))

  pub search_none : (k : K) (xs zs : List T) (i : ℕ) → Rises cmp key xs → zs ≡ xs → IsBinarySearchResult (λ y. cmp (key y) k) zs (Err i) → None ≡ found_by cmp key k xs
  search_none k xs zs i r e h = sym (search_missing cmp total key k xs i r (rw e at h))

  -- the key that was searched is that of x
  pub search_written : (x : T) (k : K) (xs zs : List T) (i : ℕ) → k ≡ key x → Rises cmp key xs → zs ≡ xs → i < length zs → IsBinarySearchResult (λ y. cmp (key y) k) zs (Ok i) → set xs i x ≡ put_by cmp key x xs
  search_written x k xs zs i n r e l h = search_set cmp total key x xs i r (rw e at l) (rw (e, n) at h)

  pub search_inserted : (x : T) (k : K) (xs zs : List T) (i : ℕ) → k ≡ key x → Rises cmp key xs → zs ≡ xs → i ≤ length zs → IsBinarySearchResult (λ y. cmp (key y) k) zs (Err i) → insert xs i x ≡ put_by cmp key x xs
  search_inserted x k xs zs i n r e l h = search_insert cmp total key x xs i r (rw e at l) (rw (e, n) at h)

  pub search_taken : (k : K) (xs zs : List T) (i : ℕ) (d : T) → Rises cmp key xs → zs ≡ xs → i < length zs → IsBinarySearchResult (λ y. cmp (key y) k) zs (Ok i) → remove xs i ≡ removed_by cmp key k xs
  search_taken k xs zs i d r e l h = search_removed cmp total key k xs i d r (rw e at l) (rw e at h)

  pub search_left : (k : K) (xs zs : List T) (i : ℕ) → Rises cmp key xs → zs ≡ xs → IsBinarySearchResult (λ y. cmp (key y) k) zs (Err i) → xs ≡ removed_by cmp key k xs
  search_left k xs zs i r e h = sym (search_kept cmp total key k xs i r (rw e at h))
