-- The items that squares of one size hold, and what a caller makes of each item.
use Rattle.std.proofs.Common.{◌≡◌, ℕ, zero, suc, ◌<◌, ◌≤◌, ℤ, pos, ◌-ℤ◌, ◌≤ℤ◌, ◌<ℤ◌, List, [], ◌∷◌, ◌++◌, Bool, true, false, refl, sym, ap, ◌∙◌, arith, inl, inr, nat_eq, get_or, ◌≢◌, ◌&&◌, ◌⊎◌, not}
use Rattle.std.specs.Prelude.{int_lt}
use Rattle.std.specs.List.{All, filter, flat_map}
use Rattle.std.proofs.lemmas.Bool.{cases_Bool, cases_lt, and_left, and_right}
use Rattle.std.proofs.lemmas.Int.{ints}
use Rattle.std.proofs.lemmas.List.{append-nil}
use Rattle.std.proofs.lemmas.List.Elements.{All-head, All-tail, filter-append}
use Rattle.grid_exact.specs.Area.{has_point}
use Rattle.grid_exact.specs.declared.area.Area.{Area}
use Rattle.grid_exact.specs.declared.point.Point.{Point}
use Rattle.surface_tree.specs.declared.placed.Plot.{Plot}
use Rattle.surface_tree.specs.Levels.{side_of, level_up_to, level_of, greater}
use Rattle.surface_tree.specs.Visits.{hit_at, hits, all_hits}
use Rattle.surface_tree.proofs.Boxes.{and_true_right}
use Rattle.surface_tree.proofs.Visits.{filter_alike, filter_none, filter_twice}
use Rattle.surface_tree.proofs.Wholes.{all_hits_at}

-- items of a list that are of one level
module _ {T : Type 0} (plot : T → Plot) (p : Point) (n : ℕ) (value : List T) (q : T → Bool) (one : All (λ i. q i ≡ nat_eq (plot i).level n) value) where
  own_level : (k : ℕ) → k ≡ n → filter q (filter (λ i. hit_at p k (plot i)) value) ≡ filter (λ i. q i && has_point (plot i).area p) value
  own_level k e =
      filter_twice q (λ i. hit_at p k (plot i)) (λ i. hit_at p k (plot i) && q i) (λ i. refl) value
      ∙ filter_alike (λ i. hit_at p k (plot i) && q i) (λ i. q i && has_point (plot i).area p) value
      (λ j d b. same (plot (get_or value j d)) (q (get_or value j d)) (one j d b))
    where
      same : (a : Plot) (b : Bool) → b ≡ nat_eq a.level n → (hit_at p k a && b) ≡ (b && has_point a.area p)
      same a true y = let t : nat_eq a.level k ≡ true = rw (e, sym y) refl in rw t (and_true_right (has_point a.area p))
      same a false y = and_right (hit_at p k a) false refl

  other_level : (k : ℕ) → k ≢ n → filter q (filter (λ i. hit_at p k (plot i)) value) ≡ []
  other_level k e =
      filter_twice q (λ i. hit_at p k (plot i)) (λ i. hit_at p k (plot i) && q i) (λ i. refl) value
      ∙ filter_none (λ i. hit_at p k (plot i) && q i) value (λ j d b. none (plot (get_or value j d)) (q (get_or value j d)) (one j d b))
    where
      none : (a : Plot) (b : Bool) → b ≡ nat_eq a.level n → (hit_at p k a && b) ≡ false
      none a true y =
          let t : nat_eq a.level k ≡ false = (let m = sym y in grind (arith, e, m)) in
          and_left (hit_at p k a) true (and_left (nat_eq a.level k) (has_point a.area p) t)
      none a false y = and_right (hit_at p k a) false refl

  none_below : (k : ℕ) → k < n → filter q (hits plot p k value) ≡ []
  none_below zero l = other_level zero (λ e. absurd (omega (arith, e, l)))
  none_below (suc k) l =
      filter-append q (filter (λ i. hit_at p (suc k) (plot i)) value) (hits plot p k value)
      ∙ rw (other_level (suc k) (λ e. absurd (omega (arith, e, l))), none_below k (omega arith)) refl

  one_hits : (k : ℕ) → n ≤ k → filter q (hits plot p k value) ≡ filter (λ i. q i && has_point (plot i).area p) value
  one_hits zero l = own_level zero (omega arith)
  one_hits (suc k) l =
      filter-append q (filter (λ i. hit_at p (suc k) (plot i)) value) (hits plot p k value)
      ∙ elim (cases_lt n (suc k)) [
        | inl a ↦ rw (other_level (suc k) (λ e. absurd (omega (arith, e, a)))) (one_hits k (omega arith))
        | inr a ↦
            (let e : suc k ≡ n = omega arith in
            rw (own_level (suc k) e, none_below k (omega arith)) (append-nil (filter (λ i. q i && has_point (plot i).area p) value)))
      ]

  -- a visit gives those of the items that have the point in their order
  one_visit : (k : ℕ) → k ≡ 14 → n ≤ k → filter q (all_hits plot p value) ≡ filter (λ i. q i && has_point (plot i).area p) value
  one_visit k e l = ap (filter q) (sym (all_hits_at plot p k value e)) ∙ one_hits k l

-- where a test passes those of the items that squares of one size hold, a visit gives these in their order
pub test_hits : {T : Type 0} (plot : T → Plot) (p : Point) (n : ℕ) (items : List T) (q : T → Bool) → n ≤ 14 → All (λ i. q i ≡ nat_eq (plot i).level n) items →
    filter q (all_hits plot p items) ≡ filter (λ i. q i && has_point (plot i).area p) items
test_hits plot p n items q l one = one_visit plot p n items q one 14 refl l

-- so it gives those of one level
pub level_hits : {T : Type 0} (plot : T → Plot) (p : Point) (n : ℕ) (items : List T) → n ≤ 14 →
    filter (λ i. nat_eq (plot i).level n) (all_hits plot p items) ≡ filter (λ i. nat_eq (plot i).level n && has_point (plot i).area p) items
level_hits plot p n items l = test_hits plot p n items (λ i. nat_eq (plot i).level n) l (λ j d b. refl)

-- and where all items are of two levels, those that are not of the lower one
pub other_hits : {T : Type 0} (plot : T → Plot) (p : Point) (a b : ℕ) (items : List T) → a < b → b ≤ 14 → All (λ i. ((plot i).level ≡ a) ⊎ ((plot i).level ≡ b)) items →
    filter (λ i. not (nat_eq (plot i).level a)) (all_hits plot p items) ≡ filter (λ i. not (nat_eq (plot i).level a) && has_point (plot i).area p) items
other_hits plot p a b items h l two =
    test_hits plot p b items (λ i. not (nat_eq (plot i).level a)) l (λ j d k. other (plot (get_or items j d)).level (two j d k))
  where
    other : (n : ℕ) → ((n ≡ a) ⊎ (n ≡ b)) → not (nat_eq n a) ≡ nat_eq n b
    other n (inl e) = let x : nat_eq n a ≡ true = grind (arith, e) in let y : nat_eq n b ≡ false = grind (arith, e, h) in rw (x, y) refl
    other n (inr e) = let x : nat_eq n a ≡ false = grind (arith, e, h) in let y : nat_eq n b ≡ true = grind (arith, e) in rw (x, y) refl

level_low : (n m : ℕ) (e : ℤ) → m < n → pos (side_of m) <ℤ e → m < level_up_to n e
level_low zero m e l h = absurd (omega arith)
level_low (suc n) m e l h =
    elim (cases_Bool (int_lt (pos (side_of n)) e)) [
      | inl y ↦ rw y (omega (arith, l))
      | inr f ↦ elim (cases_lt m n) [
        | inl k ↦ rw f (level_low n m e k h)
        | inr k ↦ absurd (let q : m ≡ n = omega arith in let t : e ≤ℤ pos (side_of n) = grind (arith, ints, f) in let u = rw q at h in omega (arith, ints, t, u))
      ]
    ]

-- an area that is longer than the side of a level is of a higher one
pub higher_level : (a : Area) (n : ℕ) → n < 14 → pos (side_of n) <ℤ greater (a.x1 -ℤ a.x0) (a.y1 -ℤ a.y0) → n < level_of a
unfolding level_of
higher_level a n l h = level_low 14 n (greater (a.x1 -ℤ a.x0) (a.y1 -ℤ a.y0)) l h

-- where an item that does not have the point gives nothing, those that have it give all
pub flat_map_kept : {X Y : Type 0} (f : X → List Y) (p : X → Bool) (xs : List X) → All (λ x. p x ≡ false → f x ≡ []) xs → flat_map f (filter p xs) ≡ flat_map f xs
flat_map_kept f p [] h = refl
flat_map_kept f p (x ∷ xs) h =
    let r = flat_map_kept f p xs (All-tail (λ y. p y ≡ false → f y ≡ []) x xs h) in
    elim (cases_Bool (p x)) [
      | inl y ↦ rw y (ap (λ zs. f x ++ zs) r)
      | inr n ↦ (let z : f x ≡ [] = All-head (λ y. p y ≡ false → f y ≡ []) x xs h n in rw (n, z) r)
    ]
