-- What a visit of a square gives, and how many items it looks at.
use Rattle.std.proofs.Common.{◌≡◌, ℕ, zero, suc, ◌+◌, ◌-◌, ◌<◌, ◌≤◌, ℤ, pos, ◌+ℤ◌, List, [], ◌∷◌, ◌++◌, map, length, Bool, true, false, ◌&&◌, ◌∙◌, ap, refl, sym, arith, inl, inr, cond}
use Rattle.std.specs.Prelude.{int_le, nat_lt}
use Rattle.std.specs.List.{All, filter}
use Rattle.std.proofs.lemmas.Bool.{cases_Bool}
use Rattle.std.proofs.lemmas.Grind.{common_steps}
use Rattle.std.proofs.lemmas.Int.{ints}
use Rattle.std.proofs.lemmas.List.{append-nil, length-map}
use Rattle.std.proofs.lemmas.List.Elements.{All-head, All-tail}
use Rattle.std.proofs.lemmas.List.Sums.{length-filter}
use Rattle.grid_exact.specs.Area.{has_point}
use Rattle.grid_exact.specs.declared.point.Point.{Point}
use Rattle.surface_tree.specs.declared.entry.Entry.{Entry}
use Rattle.surface_tree.specs.declared.placed.Plot.{Plot}
use Rattle.surface_tree.specs.Levels.{side_of}
use Rattle.surface_tree.specs.Squares.{in_cell, IsIn}
use Rattle.surface_tree.specs.Visits.{close_area, hit_at, hits, count_below, count_of_looks}
use Rattle.outline_boxes.specs.Bounds.{box_of}
use Rattle.surface_tree.specs.Parts.{item_of, IsEntry, HoldsOwn, HoldsNone}
use Rattle.surface_tree.proofs.Sides.{side-pred}
use Rattle.surface_tree.proofs.Boxes.{hit_below, own_hit, test_once}

-- where no item passes, none is left
pub filter_none : {X : Type 0} (p : X → Bool) (xs : List X) → All (λ x. p x ≡ false) xs → filter p xs ≡ []
filter_none p [] h = refl
filter_none p (x ∷ xs) h = rw (All-head (λ y. p y ≡ false) x xs h) (filter_none p xs (All-tail (λ y. p y ≡ false) x xs h))

-- tests that agree on a list's items
pub filter_alike : {X : Type 0} (p q : X → Bool) (xs : List X) → All (λ x. p x ≡ q x) xs → filter p xs ≡ filter q xs
filter_alike p q [] h = refl
filter_alike p q (x ∷ xs) h =
    let r = filter_alike p q xs (All-tail (λ y. p y ≡ q y) x xs h) in
    rw (All-head (λ y. p y ≡ q y) x xs h) (elim (cases_Bool (q x)) [ inl y ↦ rw y (ap (λ zs. x ∷ zs) r) | inr n ↦ rw n r ])

-- two tests, one after the other
pub filter_twice : {X : Type 0} (p q r : X → Bool) → ((x : X) → (q x && p x) ≡ r x) → (xs : List X) → filter p (filter q xs) ≡ filter r xs
filter_twice p q r e [] = refl
filter_twice p q r e (x ∷ xs) =
    rw (← e x) (elim (cases_Bool (q x)) [
      | inl y ↦ rw y (rw (filter_twice p q r e xs) refl)
      | inr n ↦ rw n (filter_twice p q r e xs)
    ])

-- the items of entries that pass
pub filter_items : {T : Type 0} (plot : T → Plot) (p : Point) (es : List (Entry T)) → All (λ e. IsEntry plot e) es → map item_of (filter (λ e. has_point (box_of e.bounds) p) es) ≡ filter (λ i. has_point (plot i).area p) (map item_of es)
filter_items plot p [] h = refl
filter_items plot p (e ∷ es) h =
    let b : has_point (box_of e.bounds) p ≡ has_point (plot (item_of e)).area p = ap (λ a. has_point a p) (All-head (λ e. IsEntry plot e) e es h) in
    let r = filter_items plot p es (All-tail (λ e. IsEntry plot e) e es h) in
    elim (cases_Bool (has_point (plot (item_of e)).area p)) [
      | inl y ↦ rw (b, y) (ap (λ zs. item_of e ∷ zs) r)
      | inr n ↦ rw (b, n) r
    ]

module _ {T : Type 0} (plot : T → Plot) (value : List T) (w s : ℤ) (p : Point) where
  -- no item of a bare square has a point of it
  pub bare_none : (j n k : ℕ) → j < n → IsIn k w s p → HoldsNone plot value n k w s → hits plot p j value ≡ []
  bare_none zero n k l i h = filter_none _ value (λ m d b. hit_below zero n k w s _ p l i (h m d b))
  bare_none (suc j) n k l i h =
      rw (bare_none j n k (omega arith) i h) (append-nil _ ∙ filter_none (λ x. hit_at p (suc j) (plot x)) value (λ m d b. hit_below (suc j) n k w s _ p l i (h m d b)))

  -- nor has one of its parts
  pub bare_rest : (k : ℕ) (xs : List T) → IsIn k w s p → HoldsNone plot value k k w s → xs ++ filter (λ i. hit_at p k (plot i)) value ≡ xs ++ hits plot p k value
  bare_rest zero xs i h = refl
  bare_rest (suc k) xs i h = rw (bare_none k (suc k) (suc k) (omega arith) i h) (ap (λ zs. xs ++ zs) (sym (append-nil _)))

  -- what a square's own entries give
  pub own_seen : (k : ℕ) (es : List (Entry T)) → IsIn k w s p → HoldsOwn plot value k w s es → map item_of (filter (λ e. has_point (box_of e.bounds) p) es) ≡ filter (λ i. hit_at p k (plot i)) value
  own_seen k es i h =
      filter_items plot p es h.boxes
      ∙ ap (filter (λ i. has_point (plot i).area p)) h.items
      ∙ filter_twice (λ x. has_point (plot x).area p) (λ x. in_cell k w s (plot x)) (λ x. hit_at p k (plot x)) (λ x. own_hit k w s (plot x) p i) value

  -- a square without entries gives nothing
  pub none_seen : (k : ℕ) (xs : List T) → IsIn k w s p → HoldsOwn plot value k w s [] → xs ++ filter (λ i. hit_at p k (plot i)) value ≡ xs
  none_seen k xs i h = rw (← own_seen k [] i h) (append-nil xs)

  pub hits_more : (k : ℕ) (xs : List T) → 0 < k → (xs ++ filter (λ i. hit_at p k (plot i)) value) ++ hits plot p (k - 1) value ≡ xs ++ hits plot p k value
  hits_more zero xs l = absurd (omega arith)
  hits_more (suc k) xs l = let e : suc k - 1 ≡ k = omega arith in rw e (grind (arith, common_steps))

  -- how many entries a square has
  own_number : (k : ℕ) (es : List (Entry T)) → HoldsOwn plot value k w s es → length es ≡ length (filter (λ i. in_cell k w s (plot i)) value)
  own_number k es h = let e : length (map item_of es) ≡ length (filter (λ i. in_cell k w s (plot i)) value) = ap length h.items in rw length-map at e

  pub own_looks : (k : ℕ) (es : List (Entry T)) → IsIn k w s p → HoldsOwn plot value k w s es → length es + count_below plot p k value ≤ count_of_looks plot p k value
  own_looks k es i h =
      let A : T → Bool = λ x. in_cell k w s (plot x) in
      let B : T → Bool = λ x. nat_lt (plot x).level k && close_area p (plot x) in
      let C : T → Bool = λ x. nat_lt (plot x).level (k + 1) && close_area p (plot x) in
      omega (arith, own_number k es h, length-filter B value, length-filter C value, three A B C value (λ n d b. test_once k w s _ p i))
    where
      three : (A B C : T → Bool) (xs : List T) → All (λ x. cond (A x) 1 0 + cond (B x) 1 0 ≤ cond (C x) 1 0) xs → length (filter A xs) + length (filter B xs) ≤ length (filter C xs)
      three A B C [] t = omega arith
      three A B C (x ∷ xs) t =
          let r = three A B C xs (All-tail (λ y. cond (A y) 1 0 + cond (B y) 1 0 ≤ cond (C y) 1 0) x xs t) in
          let u = All-head (λ y. cond (A y) 1 0 + cond (B y) 1 0 ≤ cond (C y) 1 0) x xs t in
          elim (cases_Bool (A x)) [
            | inl a ↦ elim (cases_Bool (B x)) [
              | inl b ↦ elim (cases_Bool (C x)) [ inl c ↦ absurd (omega (arith, (rw (a, b, c) at u))) | inr c ↦ absurd (omega (arith, (rw (a, b, c) at u))) ]
              | inr b ↦ elim (cases_Bool (C x)) [ inl c ↦ rw (a, b, c) (omega (arith, r)) | inr c ↦ absurd (omega (arith, (rw (a, b, c) at u))) ]
            ]
            | inr a ↦ elim (cases_Bool (B x)) [
              | inl b ↦ elim (cases_Bool (C x)) [ inl c ↦ rw (a, b, c) (omega (arith, r)) | inr c ↦ absurd (omega (arith, (rw (a, b, c) at u))) ]
              | inr b ↦ elim (cases_Bool (C x)) [ inl c ↦ rw (a, b, c) (omega (arith, r)) | inr c ↦ rw (a, b, c) (omega (arith, r)) ]
            ]
          ]

  -- a visit of a square and of its quarters
  pub cost_own : (k : ℕ) (es : List (Entry T)) (old mid new : ℕ) → IsIn k w s p → HoldsOwn plot value k w s es → mid ≡ old + 1 + length es → new ≤ mid + k + count_below plot p k value → new ≤ old + (k + 1) + count_of_looks plot p k value
  cost_own k es old mid new i h m n = omega (arith, m, n, own_looks k es i h)

-- the quarter that has the point
pub in_north_east : (k : ℕ) (w s : ℤ) (p : Point) → 0 < k → IsIn k w s p → int_le (w +ℤ pos (side_of (k - 1))) p.x ≡ true → int_le (s +ℤ pos (side_of (k - 1))) p.y ≡ true → IsIn (k - 1) (w +ℤ pos (side_of (k - 1))) (s +ℤ pos (side_of (k - 1))) p
in_north_east k w s p l i x y =
    let e = side-pred k l in
    record { not_west = grind (arith, ints, x); not_east = omega (arith, ints, i, e); not_south = grind (arith, ints, y); not_north = omega (arith, ints, i, e) }

pub in_north_west : (k : ℕ) (w s : ℤ) (p : Point) → 0 < k → IsIn k w s p → int_le (w +ℤ pos (side_of (k - 1))) p.x ≡ false → int_le (s +ℤ pos (side_of (k - 1))) p.y ≡ true → IsIn (k - 1) w (s +ℤ pos (side_of (k - 1))) p
in_north_west k w s p l i x y =
    let e = side-pred k l in
    record { not_west = i.not_west; not_east = grind (arith, ints, x); not_south = grind (arith, ints, y); not_north = omega (arith, ints, i, e) }

pub in_south_east : (k : ℕ) (w s : ℤ) (p : Point) → 0 < k → IsIn k w s p → int_le (w +ℤ pos (side_of (k - 1))) p.x ≡ true → int_le (s +ℤ pos (side_of (k - 1))) p.y ≡ false → IsIn (k - 1) (w +ℤ pos (side_of (k - 1))) s p
in_south_east k w s p l i x y =
    let e = side-pred k l in
    record { not_west = grind (arith, ints, x); not_east = omega (arith, ints, i, e); not_south = i.not_south; not_north = grind (arith, ints, y) }
