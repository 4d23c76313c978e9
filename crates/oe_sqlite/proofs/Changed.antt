-- One key of a table is changed.
use Rattle.std.proofs.Common.{◌≡◌, ◌≢◌, ◌⊎◌, inl, inr, ℕ, T, Bool, true, false, cond, List, [], ◌∷◌, map, Option, Some, None, refl, sym, ap, subst, ◌∙◌}
use Rattle.std.specs.declared.cmp.Ordering.{Ordering}
use Rattle.std.specs.declared.cmp.Ordering.TheVariants.{Less, Equal, Greater}
use Rattle.std.specs.Ordering.{nat_cmp, ordering_then, is_eq, eq_by_cmp}
use Rattle.std.specs.Cmp.{IsTotalOrder, then_total, on_total, nat_cmp_total, tied_itself}
use Rattle.std.specs.Cmp.Lexicographic.{nat_list_cmp_total, slice_cmp}
use Rattle.std.specs.FinMap as maps
use Rattle.std.specs.FinMap.{find, IsAntisymmetric, nat_cmp-IsAntisymmetric, slice_cmp-IsAntisymmetric, get-from_entries, get-insert, get-remove, same_map}
use Rattle.sqlite_value.specs.Order.{Row}
use Rattle.sqlite_rules.specs.Lists.{Has}
use Rattle.oe_keeper.specs.Kept.{Key, key_cmp, key_cmp_total, Kept}
use Rattle.oe_keeper.proofs.Keys.{key_cmp-same}
use Rattle.oe_sqlite.specs.Model.{key_in, pair_in, tables_in, IsKeyed}

-- whether the row has the key
abbrev pub ties : Key → Row → Bool
ties q row = eq_by_cmp key_cmp q (key_in row)

pub equal : (r : Ordering) → T (is_eq r) → r ≡ Equal
equal Less p = absurd p
equal Equal p = refl
equal Greater p = absurd p

tied_is : (q : Key) (row : Row) → T (ties q row) → q ≡ key_in row
tied_is q row h = key_cmp-same q (key_in row) (equal _ h)

module _ (q : Key) where
  past : (rows : List Row) (r row : Row) → Has (r ∷ rows) row → T (ties q row) → ties q r ≡ false → Has rows row
  past rows r row (inl e) tied not = absurd (subst T not (subst (λ x. T (ties q x)) e tied))
  past rows r row (inr h) tied not = h

  pub found : (rows : List Row) (row : Row) → Has rows row → T (ties q row) → ((x : Row) → Has rows x → T (ties q x) → x ≡ row) → find key_cmp q (map pair_in rows) ≡ Some (pair_in row).1
  found [] row has tied only = absurd has
  found (r ∷ rows) row has tied only =
      elim (ties q r) as (λ b. ties q r ≡ b → cond b (Some (pair_in r).1) (find key_cmp q (map pair_in rows)) ≡ Some (pair_in row).1) [
        | true ↦ λ p. ap (λ x. Some (pair_in x).1) (only r (inl refl) (subst T (sym p) tt))
        | false ↦ λ p. found rows row (past rows r row has tied p) tied (λ x h. only x (inr h))
      ] refl

  pub missed : (rows : List Row) → ((x : Row) → Has rows x → ¬ T (ties q x)) → find key_cmp q (map pair_in rows) ≡ None
  missed [] none = refl
  missed (r ∷ rows) none =
      elim (ties q r) as (λ b. ties q r ≡ b → cond b (Some (pair_in r).1) (find key_cmp q (map pair_in rows)) ≡ None) [
        | true ↦ λ p. absurd (none r (inl refl) (subst T (sym p) tt))
        | false ↦ λ p. missed rows (λ x h. none x (inr h))
      ] refl

  pub sought : (rows : List Row) → ((row : Row) × Has rows row × T (ties q row)) ⊎ ((x : Row) → Has rows x → ¬ T (ties q x))
  sought [] = inr (λ x h. absurd h)
  sought (r ∷ rows) =
      elim (ties q r) as (λ b. ties q r ≡ b → ((row : Row) × Has (r ∷ rows) row × T (ties q row)) ⊎ ((x : Row) → Has (r ∷ rows) x → ¬ T (ties q x))) [
        | true ↦ λ p. inl (r, inl refl, subst T (sym p) tt)
        | false ↦ λ p. elim (sought rows) [
          | inl it ↦ inl (it.0, inr it.1, it.2)
          | inr none ↦ inr (λ x h t. none x (past rows r x h t p) t)
        ]
      ] refl

module _ (old new : List Row) (at : Key) (keyed : IsKeyed old) (still : IsKeyed new) (kept : (x : Row) → key_in x ≢ at → Has old x → Has new x)
    (back : (x : Row) → key_in x ≢ at → Has new x → Has old x) where
  only_there : (q : Key) (rows : List Row) (row : Row) → IsKeyed rows → Has rows row → T (ties q row) → (x : Row) → Has rows x → T (ties q x) → x ≡ row
  only_there q rows row once has tied x h t = once x row h has (sym (tied_is q x t) ∙ tied_is q row tied)

  elsewhere : (q : Key) → q ≢ at → find key_cmp q (map pair_in new) ≡ find key_cmp q (map pair_in old)
  elsewhere q apart = elim (sought q old) [
    | inl it ↦
        let key = tied_is q it.0 it.2 in
        found q new it.0 (kept it.0 (λ e. apart (key ∙ e)) it.1) it.2 (only_there q new it.0 still (kept it.0 (λ e. apart (key ∙ e)) it.1) it.2)
        ∙ sym (found q old it.0 it.1 it.2 (only_there q old it.0 keyed it.1 it.2))
    | inr none ↦ missed q new (λ x h t. none x (back x (λ e. apart (tied_is q x t ∙ e)) h) t) ∙ sym (missed q old none)
  ]

  by_key : (after : Kept) (there : Option (List ℕ)) → ((q : Key) → maps.get after q ≡ cond (eq_by_cmp key_cmp q at) there (maps.get (tables_in old) q))
      → find key_cmp at (map pair_in new) ≡ there → tables_in new ≡ after
  by_key after there gets is =
      same_map key_cmp_total key_cmp-same _ _ (λ q. get-from_entries key_cmp_total (map pair_in new) q
      ∙ elim (eq_by_cmp key_cmp q at) as (λ b. eq_by_cmp key_cmp q at ≡ b → find key_cmp q (map pair_in new) ≡ cond b there (maps.get (tables_in old) q)) [
        | true ↦ λ p. ap (λ k. find key_cmp k (map pair_in new)) (key_cmp-same q at (equal _ (subst T (sym p) tt))) ∙ is
        | false ↦ λ p. elsewhere q (λ e. subst T p (subst (λ k. T (eq_by_cmp key_cmp k at)) (sym e) (itself at))) ∙ sym (get-from_entries key_cmp_total (map pair_in old) q)
      ] refl
      ∙ sym (gets q))
    where
      itself : (k : Key) → T (eq_by_cmp key_cmp k k)
      itself k = subst (λ r. T (is_eq r)) (sym (tied_itself key_cmp_total k)) tt

  pub put_is : (row : Row) → Has new row → key_in row ≡ at → tables_in new ≡ maps.insert (tables_in old) at (pair_in row).1
  put_is row has key =
      let tied : T (ties at row) = subst (λ k. T (eq_by_cmp key_cmp at k)) (sym key) (subst (λ r. T (is_eq r)) (sym (tied_itself key_cmp_total at)) tt) in
      by_key _ (Some (pair_in row).1) (get-insert key_cmp_total (tables_in old) at (pair_in row).1) (found at new row has tied (only_there at new row still has tied))

  pub remove_is : ((x : Row) → Has new x → key_in x ≢ at) → tables_in new ≡ maps.remove (tables_in old) at
  remove_is none = by_key _ None (get-remove key_cmp_total (tables_in old) at) (missed at new (λ x h t. none x h (sym (tied_is at x t))))
