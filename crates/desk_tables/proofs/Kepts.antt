-- The five tables after one of their rows was put or taken out.
use Rattle.std.proofs.Common.{◌≡◌, ◌≢◌, refl, ap, ◌∙◌, ℕ, List, Some, None, Bool, true, false, cond}
use Rattle.std.specs.Ordering.{eq_by_cmp, is_eq}
use Rattle.std.specs.declared.cmp.Ordering.{Ordering}
use Rattle.std.specs.declared.cmp.Ordering.TheVariants.{Less, Equal, Greater}
use Rattle.std.specs.FinMap as map
use Rattle.std.proofs.lemmas.Cmp.{tied_itself}
use Rattle.oe_keeper.specs.Kept.{Key, Kept, key_cmp, key_cmp_total, place, rows_after_change}
use Rattle.oe_keeper.specs.declared.change.Table.{Table}
use Rattle.oe_keeper.specs.declared.change.RowChange.TheVariants.{Put, Remove}
use Rattle.oe_keeper.proofs.Keys.{key_cmp-same}
use Rattle.desk_tables.specs.Tables.{found_in}
use Rattle.desk_tables.proofs.Named.{IsPutAt}

pub equal : (o : Ordering) → is_eq o ≡ true → o ≡ Equal
equal Less h = absurd (cc (h))
equal Equal h = refl
equal Greater h = absurd (cc (h))

other : (b : Bool) (q k : Key) → eq_by_cmp key_cmp q k ≡ b → q ≢ k → b ≡ false
other true q k e apart = absurd (apart (key_cmp-same q k (equal (key_cmp q k) e)))
other false q k e apart = refl

pub itself : (k : Key) → eq_by_cmp key_cmp k k ≡ true
itself k = ap is_eq (tied_itself key_cmp_total k)

-- a row that is put stands under its key
pub put_here : (kept : Kept) (k : Key) (row : List ℕ) → map.get (map.insert kept k row) k ≡ Some row
put_here kept k row = map.get-insert key_cmp_total kept k row k ∙ ap (λ b. cond b (Some row) (map.get kept k)) (itself k)

pub put_elsewhere : (kept : Kept) (k q : Key) (row : List ℕ) → q ≢ k → map.get (map.insert kept k row) q ≡ map.get kept q
put_elsewhere kept k q row apart = map.get-insert key_cmp_total kept k row q ∙ ap (λ b. cond b (Some row) (map.get kept q)) (other (eq_by_cmp key_cmp q k) q k refl apart)

removed_here : (kept : Kept) (k : Key) → map.get (map.remove kept k) k ≡ None
removed_here kept k = map.get-remove key_cmp_total kept k k ∙ ap (λ b. cond b None (map.get kept k)) (itself k)

removed_elsewhere : (kept : Kept) (k q : Key) → q ≢ k → map.get (map.remove kept k) q ≡ map.get kept q
removed_elsewhere kept k q apart = map.get-remove key_cmp_total kept k q ∙ ap (λ b. cond b None (map.get kept q)) (other (eq_by_cmp key_cmp q k) q k refl apart)

pub put_in : (kept : Kept) (t : Table) (k row : List ℕ) → IsPutAt k (Some row) (found_in kept t) (found_in (rows_after_change kept (Put t k row)) t)
put_in kept t k row = record {
  here = put_here kept (place t, k) row;
  elsewhere = λ q apart. put_elsewhere kept (place t, k) (place t, q) row (λ e. apart (ap (λ (x : Key). x.1) e));
}

pub removed_in : (kept : Kept) (t : Table) (k : List ℕ) → IsPutAt k None (found_in kept t) (found_in (rows_after_change kept (Remove t k)) t)
removed_in kept t k = record {
  here = removed_here kept (place t, k);
  elsewhere = λ q apart. removed_elsewhere kept (place t, k) (place t, q) (λ e. apart (ap (λ (x : Key). x.1) e));
}

-- other tables stay as they are
pub put_beside : (kept : Kept) (t : Table) (k row : List ℕ) (n : ℕ) (q : List ℕ) → n ≢ place t → map.get (rows_after_change kept (Put t k row)) (n, q) ≡ map.get kept (n, q)
put_beside kept t k row n q apart = put_elsewhere kept (place t, k) (n, q) row (λ e. apart (ap (λ (x : Key). x.0) e))

pub removed_beside : (kept : Kept) (t : Table) (k : List ℕ) (n : ℕ) (q : List ℕ) → n ≢ place t → map.get (rows_after_change kept (Remove t k)) (n, q) ≡ map.get kept (n, q)
removed_beside kept t k n q apart = removed_elsewhere kept (place t, k) (n, q) (λ e. apart (ap (λ (x : Key). x.0) e))
