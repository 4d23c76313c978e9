-- A visit of the whole tree, and what changes make of it.
use Rattle.std.proofs.Common.{◌≡◌, ℕ, zero, suc, ◌+◌, ◌<◌, ◌≤◌, ℤ, pos, neg_ℤ, ◌-ℤ◌, List, [], ◌∷◌, ◌++◌, Some, None, Bool, true, false, ◌&&◌, refl, sym, ap, ◌∙◌, arith, inl, inr, cond, length, count_by, nat_eq, get_or, subst}
use Rattle.std.specs.Prelude.{int_lt, nat_lt}
use Rattle.std.specs.List.{All, filter}
use Rattle.std.specs.List.Sorted.{IsPermutation}
use Rattle.std.specs.Cmp.{IsTotalOrder}
use Rattle.std.specs.declared.cmp.Ordering.{Ordering}
use Rattle.std.proofs.lemmas.Bool.{cases_Bool}
use Rattle.std.proofs.lemmas.Int.{ints}
use Rattle.std.proofs.lemmas.List.Elements.{filter_agree, All-head, All-tail}
use Rattle.std.proofs.lemmas.List.Sums.{length-filter}
use Rattle.std.proofs.lemmas.List.Sorted.{IsPermutation-refl, IsPermutation-sym, IsPermutation-trans, IsPermutation-cons, IsPermutation-middle, IsPermutation-append_right}
use Rattle.grid_exact.specs.Area.{has_point}
use Rattle.grid_exact.specs.declared.area.Area.{Area}
use Rattle.grid_exact.specs.declared.point.Point.{Point}
use Rattle.ordered_list.specs.Ordered.{Rises, found_by, removed_by}
use Rattle.ordered_list.proofs.Orders.{same}
use Rattle.ordered_list.proofs.Places.{found_at}
use Rattle.ordered_list.proofs.Rising.{Rises-removed}
use Rattle.surface_tree.specs.declared.placed.Plot.{Plot}
use Rattle.surface_tree.specs.Levels.{IsPlaced, side_of, level_up_to, level_of, greater}
use Rattle.surface_tree.specs.Squares.{IsIn}
use Rattle.outline_boxes.specs.declared.bounds.TheConstants.{PLANE_LIMIT}
use Rattle.surface_tree.specs.Changes.{Fits, LiesIn}
use Rattle.surface_tree.specs.Visits.{near_area, close_area, hit_at, hits, all_hits, count_of_looks}
use Rattle.ordered_tree.proofs.Order.{not_removed, only_found}
use Rattle.surface_tree.proofs.Boxes.{close_near}
use Rattle.surface_tree.proofs.Visits.{filter_alike}

level_most : (n : ℕ) (e : ℤ) → level_up_to n e ≤ n
level_most zero e = omega arith
level_most (suc n) e = elim (cases_Bool (int_lt (pos (side_of n)) e)) [ inl y ↦ rw y (omega arith) | inr f ↦ rw f (omega (arith, level_most n e)) ]

level_of_most : (a : Area) → level_of a ≤ 14
unfolding level_of
level_of_most a = level_most 14 (greater (a.x1 -ℤ a.x0) (a.y1 -ℤ a.y0))

-- no plot in the plane is of a level above that of the whole plane
pub placed_most : (a : Plot) → IsPlaced a → a.level ≤ 14
placed_most a h = omega (arith, h.level_most, level_of_most a.area)

whole_level : (k : ℕ) (a : Plot) → k ≡ 14 → IsPlaced a → nat_lt a.level (k + 1) ≡ true
whole_level k a h i = let l : a.level < k + 1 = omega (arith, h, placed_most a i) in grind (arith, l)

-- items that pass one of two tests
apart : {X : Type 0} (r a b : X → Bool) → ((x : X) → cond (a x) 1 0 + cond (b x) 1 0 ≡ cond (r x) 1 0) → (xs : List X) → IsPermutation (filter r xs) (filter a xs ++ filter b xs)
apart r a b e [] = IsPermutation-refl []
apart r a b e (x ∷ xs) =
    let p = apart r a b e xs in
    let u = e x in
    elim (cases_Bool (a x)) [
      | inl y ↦ elim (cases_Bool (b x)) [
        | inl z ↦ elim (cases_Bool (r x)) [ inl t ↦ absurd (omega (arith, (rw (y, z, t) at u))) | inr t ↦ absurd (omega (arith, (rw (y, z, t) at u))) ]
        | inr z ↦ elim (cases_Bool (r x)) [ inl t ↦ rw (y, z, t) (IsPermutation-cons x (filter r xs) (filter a xs ++ filter b xs) p) | inr t ↦ absurd (omega (arith, (rw (y, z, t) at u))) ]
      ]
      | inr y ↦ elim (cases_Bool (b x)) [
        | inl z ↦ elim (cases_Bool (r x)) [
          | inl t ↦ rw (y, z, t) (IsPermutation-trans (x ∷ filter r xs) (x ∷ (filter a xs ++ filter b xs)) (filter a xs ++ x ∷ filter b xs) (IsPermutation-cons x (filter r xs) (filter a xs ++ filter b xs) p) (IsPermutation-sym (filter a xs ++ x ∷ filter b xs) (x ∷ (filter a xs ++ filter b xs)) (IsPermutation-middle (filter a xs) x (filter b xs))))
          | inr t ↦ absurd (omega (arith, (rw (y, z, t) at u)))
        ]
        | inr z ↦ elim (cases_Bool (r x)) [ inl t ↦ absurd (omega (arith, (rw (y, z, t) at u))) | inr t ↦ rw (y, z, t) p ]
      ]
    ]

least_test : (l : ℕ) → nat_lt l (0 + 1) ≡ nat_eq l 0
least_test zero = refl
least_test (suc l) = let a : nat_lt (suc l) 1 ≡ false = grind arith in let b : nat_eq (suc l) 0 ≡ false = grind arith in rw (a, b) refl

level_tests : (l k : ℕ) (h : Bool) → cond (nat_eq l (k + 1) && h) 1 0 + cond (nat_lt l (k + 1) && h) 1 0 ≡ cond (nat_lt l (k + 1 + 1) && h) 1 0
level_tests l k false =
    elim (cases_Bool (nat_eq l (k + 1))) [
      | inl a ↦ (let b : nat_lt l (k + 1) ≡ false = grind (arith, a) in let c : nat_lt l (k + 1 + 1) ≡ true = grind (arith, a) in rw (a, b, c) refl)
      | inr a ↦ elim (cases_Bool (nat_lt l (k + 1))) [
        | inl b ↦ (let c : nat_lt l (k + 1 + 1) ≡ true = grind (arith, b) in rw (a, b, c) refl)
        | inr b ↦ (let c : nat_lt l (k + 1 + 1) ≡ false = grind (arith, a, b) in rw (a, b, c) refl)
      ]
    ]
level_tests l k true =
    elim (cases_Bool (nat_eq l (k + 1))) [
      | inl a ↦ (let b : nat_lt l (k + 1) ≡ false = grind (arith, a) in let c : nat_lt l (k + 1 + 1) ≡ true = grind (arith, a) in rw (a, b, c) refl)
      | inr a ↦ elim (cases_Bool (nat_lt l (k + 1))) [
        | inl b ↦ (let c : nat_lt l (k + 1 + 1) ≡ true = grind (arith, b) in rw (a, b, c) refl)
        | inr b ↦ (let c : nat_lt l (k + 1 + 1) ≡ false = grind (arith, a, b) in rw (a, b, c) refl)
      ]
    ]

module _ {T : Type 0} (plot : T → Plot) (p : Point) where
  hits_up_to : (k : ℕ) (value : List T) → IsPermutation (filter (λ i. nat_lt (plot i).level (k + 1) && has_point (plot i).area p) value) (hits plot p k value)
  hits_up_to zero value =
      let e = filter_agree (λ i. nat_lt (plot i).level (0 + 1) && has_point (plot i).area p) (λ i. hit_at p 0 (plot i)) (λ i. ap (λ b. b && has_point (plot i).area p) (least_test (plot i).level)) value in
      rw e (IsPermutation-refl (filter (λ i. hit_at p 0 (plot i)) value))
  hits_up_to (suc k) value =
      let s : suc k ≡ k + 1 = omega arith in
      let a = apart (λ i. nat_lt (plot i).level (k + 1 + 1) && has_point (plot i).area p) (λ i. hit_at p (k + 1) (plot i)) (λ i. nat_lt (plot i).level (k + 1) && has_point (plot i).area p) (λ i. level_tests (plot i).level k (has_point (plot i).area p)) value in
      rw s (IsPermutation-trans _ _ _ a (IsPermutation-append_right (filter (λ i. hit_at p (k + 1) (plot i)) value) _ _ (hits_up_to k value)))

  -- a visit of the whole tree gives each item whose area has the point
  hits_at : (k : ℕ) (value : List T) → k ≡ 14 → All (λ i. IsPlaced (plot i)) value → IsPermutation (filter (λ i. has_point (plot i).area p) value) (hits plot p k value)
  hits_at k value h placed =
      let e = filter_alike (λ i. has_point (plot i).area p) (λ i. nat_lt (plot i).level (k + 1) && has_point (plot i).area p) value (λ j d b. rw (whole_level k (plot (get_or value j d)) h (placed j d b)) refl) in
      rw e (hits_up_to k value)

  pub seen_whole : (Seen : List T → Type 0) (k : ℕ) (value xs : List T) → k ≡ 14 → All (λ i. IsPlaced (plot i)) value → Seen (xs ++ hits plot p k value) → (ys : List T) × IsPermutation (filter (λ i. has_point (plot i).area p) value) ys × Seen (xs ++ ys)
  seen_whole Seen k value xs h placed s = (hits plot p k value, hits_at k value h placed, s)

  pub looks_whole : (k : ℕ) (value : List T) → k ≡ 14 → All (λ i. IsPlaced (plot i)) value → count_of_looks plot p k value ≡ count_by (λ i. close_area p (plot i)) value
  looks_whole k value h placed =
      let e = filter_alike (λ i. close_area p (plot i)) (λ i. nat_lt (plot i).level (k + 1) && close_area p (plot i)) value (λ j d b. rw (whole_level k (plot (get_or value j d)) h (placed j d b)) refl) in
      sym (length-filter (λ i. nat_lt (plot i).level (k + 1) && close_area p (plot i)) value) ∙ ap length (sym e) ∙ length-filter (λ i. close_area p (plot i)) value

  -- what is close is near
  pub close_count : (value : List T) → All (λ i. IsPlaced (plot i)) value → count_by (λ i. close_area p (plot i)) value ≤ count_by (λ i. near_area p (plot i).area) value
  close_count value h = omega (arith, length-filter (λ i. close_area p (plot i)) value, length-filter (λ i. near_area p (plot i).area) value, fewer value h)
    where
      fewer : (value : List T) → All (λ i. IsPlaced (plot i)) value → length (filter (λ i. close_area p (plot i)) value) ≤ length (filter (λ i. near_area p (plot i).area) value)
      fewer [] h = omega arith
      fewer (x ∷ xs) h =
          let r = fewer xs (All-tail (λ i. IsPlaced (plot i)) x xs h) in
          elim (cases_Bool (close_area p (plot x))) [
            | inl y ↦ (let n : near_area p (plot x).area ≡ true = close_near (plot x) p (All-head (λ i. IsPlaced (plot i)) x xs h) y in rw (y, n) (omega (arith, r)))
            | inr y ↦ elim (cases_Bool (near_area p (plot x).area)) [ inl n ↦ rw (y, n) (omega (arith, r)) | inr n ↦ rw (y, n) r ]
          ]

  pub all_hits_at : (k : ℕ) (value : List T) → k ≡ 14 → hits plot p k value ≡ all_hits plot p value
  unfolding all_hits
  all_hits_at k value h = ap (λ n. hits plot p n value) h

  pub order_whole : (Seen : List T → Type 0) (k : ℕ) (value xs : List T) → k ≡ 14 → Seen (xs ++ hits plot p k value) → Seen (xs ++ all_hits plot p value)
  order_whole Seen k value xs h s = subst (λ ys. Seen (xs ++ ys)) (all_hits_at k value h) s

-- each point of the grid lies in the whole square
pub whole_in : (p : Point) → IsIn 14 (neg_ℤ PLANE_LIMIT) (neg_ℤ PLANE_LIMIT) p
whole_in p = let s : side_of 14 ≡ 67108864 = refl in let g = p.on_grid in record { not_west = omega (arith, ints, g); not_east = omega (arith, ints, s, g); not_south = omega (arith, ints, g); not_north = omega (arith, ints, s, g) }

module _ {T K : Type 0} (cmp : K → K → Ordering) (total : IsTotalOrder cmp) (key : T → K) (plot : T → Plot) where
  lies_equal : (a b : Plot) → a ≡ b → LiesIn a b
  lies_equal a b e = rw e (record { level = refl; west = omega (arith, ints); east = omega (arith, ints); south = omega (arith, ints); north = omega (arith, ints) })

  -- the removal of what is found fits
  pub fits_found : (k : K) (y : T) (value : List T) → Rises cmp key value → found_by cmp key k value ≡ Some y → Fits cmp key plot k (plot y) None value
  fits_found k y value r e =
      record { rises = r; covered = λ j d l q. lies_equal (plot (get_or value j d)) (plot y) (ap plot (only_found cmp total key k y value r e j d l q)); is_for = tt }

  -- an item fits where none stands under its key, or one whose plot lies in its own
  pub fits_covered : (x : T) (value : List T) → Rises cmp key value → ((i : T) → found_by cmp key (key x) value ≡ Some i → LiesIn (plot i) (plot x)) → Fits cmp key plot (key x) (plot x) (Some x) value
  fits_covered x value r h =
      record { rises = r; covered = λ j d l q. h (get_or value j d) (found_at cmp total key (key x) value j d r l (same cmp total (key x) (key (get_or value j d)) q)); is_for = (refl, refl) }

  -- and so does a new item where the one under its key was taken out
  pub fits_new : (x : T) (value : List T) → Rises cmp key value → Fits cmp key plot (key x) (plot x) (Some x) (removed_by cmp key (key x) value)
  fits_new x value r =
      record { rises = Rises-removed cmp total key (key x) value r; covered = λ j d l q. absurd (not_removed cmp total key (key x) value j d l q); is_for = (refl, refl) }
