-- The least rise at which a point is in some capsule.
use Rattle.std.proofs.Common.{◌≡◌, ◌⊎◌, inl, inr, ◌||◌, Bool, true, false, List, [], ◌∷◌, length, take, drop, get_or, ℕ, zero, suc, ◌+◌, ◌*◌, ◌<◌, ◌≤◌, arith, refl, sym, ◌∙◌, subst, drop-cons}
use Rattle.std.specs.List.{list_any}
use Rattle.std.proofs.lemmas.Bool.{cases_lt}
use Rattle.std.proofs.lemmas.List.Folds.{list_any_kept, list_any_more}
use Rattle.grid_exact.specs.declared.point.Point.{Point}
use Rattle.center_polygon.specs.Somes.{some_two}
use Rattle.horizontal_hull.specs.declared.edge.Edge.TheVariants.{Closed}
use Rattle.horizontal_hull.specs.declared.sizes.TheConstants.{CONICAL_RISE, CONICAL_RUN, CONICAL_SLOPE}
use Rattle.horizontal_hull.specs.Arcs.{ArcShape}
use Rattle.horizontal_hull.specs.Rises.{IsLeastRise, IsRise, in_risen}
use Rattle.horizontal_hull.specs.Within.{Within}
use Rattle.horizontal_hull.proofs.Grows.{InCapsule_grows}
use Rattle.horizontal_hull.proofs.Tests.{InCapsule-test, Within-test}
use Rattle.horizontal_hull.proofs.WithinFacts.{in_triangles, within_apart, within_by_triangle}

-- ---- one capsule
pub in_risen_grows : (x : Point) (a b : ArcShape) (k n : ℕ) → k ≤ n → in_risen x k a b ≡ true → in_risen x n a b ≡ true
in_risen_grows x a b k n l h =
    (InCapsule-test Closed a b x (CONICAL_SLOPE * n)).1
    (InCapsule_grows Closed a b x (CONICAL_SLOPE * k) (CONICAL_SLOPE * n) (farther k n l) ((InCapsule-test Closed a b x (CONICAL_SLOPE * k)).0 h))
  where
    farther : (k n : ℕ) → k ≤ n → CONICAL_SLOPE * k ≤ CONICAL_SLOPE * n
    farther k n l = omega (arith, l)

-- one that is missed shows that less is missed
pub missed_below : (x : Point) (a b : ArcShape) (n k : ℕ) → in_risen x n a b ≡ false → in_risen x k a b ≡ true → n < k
missed_below x a b n k f h =
    elim (cases_lt n k) [
      | inl l ↦ l
      | inr l ↦ absurd (let t : in_risen x n a b ≡ true = in_risen_grows x a b k n l h in let e : true ≡ false = sym t ∙ f in cc)
    ]

-- ---- one with each of others
either_true : (p q : Bool) → (p || q) ≡ true → (p ≡ true) ⊎ (q ≡ true)
either_true true q h = inl refl
either_true false q h = inr h

or_second : (p q : Bool) → q ≡ true → (p || q) ≡ true
or_second true q h = refl
or_second false q h = h

pub with_one_more : {A : Type 0} (p : ℕ → A → Bool) (xs : List A) (i : ℕ) (d : A) (most old new : ℕ) → i < length xs → IsLeastRise (λ k. list_any (p k) (take i xs)) most old → IsLeastRise (λ k. p k (get_or xs i d)) old new →
    IsLeastRise (λ k. list_any (p k) (take (i + 1) xs)) most new
with_one_more p xs i d most old new l h one = record {
  bound = omega (arith, h.bound, one.bound);
  reaches = λ m. elim (cases_lt new old) [
    | inl n ↦ list_any_more (p new) xs i d l ∙ or_second (list_any (p new) (take i xs)) (p new (get_or xs i d)) (one.reaches n)
    | inr n ↦ kept (omega (arith, n, one.bound)) m
  ];
  least = λ k t. elim (either_true (list_any (p k) (take i xs)) (p k (get_or xs i d)) (sym (list_any_more (p k) xs i d l) ∙ t)) [
    | inl u ↦ (let m = h.least k u in omega (arith, m, one.bound))
    | inr u ↦ one.least k u
  ];
}
  where
    kept : new ≡ old → new < most → list_any (p new) (take (i + 1) xs) ≡ true
    kept e m = list_any_kept (p new) xs i (subst (λ z. list_any (p z) (take i xs) ≡ true) (sym e) (h.reaches (subst (λ z. z < most) e m)))

-- ---- some two: those of the first i with each after them
pub record IsRiseSoFar {A : Type 0} (p : ℕ → A → A → Bool) (xs : List A) (i most rise : ℕ) : Type 0 where
  pub bound : rise ≤ most
  pub reaches : rise < most → some_two (p rise) xs ≡ true
  pub least : (k : ℕ) → some_two (p k) xs ≡ true → (rise ≤ k) ⊎ (some_two (p k) (drop i xs) ≡ true)

pub so_far_none : {A : Type 0} (p : ℕ → A → A → Bool) (xs : List A) (most : ℕ) → IsRiseSoFar p xs 0 most most
so_far_none p xs most = record { bound = omega arith; reaches = λ l. absurd (omega (arith, l)); least = λ k h. inr h }

some_two_behind : {A : Type 0} (p : A → A → Bool) (i : ℕ) (xs : List A) → some_two p (drop i xs) ≡ true → some_two p xs ≡ true
some_two_behind p zero xs h = h
some_two_behind p (suc i) [] h = h
some_two_behind p (suc i) (x ∷ xs) h = or_second (list_any (p x) xs) (some_two p xs) (some_two_behind p i xs h)

pub so_far_more : {A : Type 0} (p : ℕ → A → A → Bool) (xs : List A) (i : ℕ) (a : A) (most old new : ℕ) → i < length xs → a ≡ get_or xs i a → IsRiseSoFar p xs i most old → IsLeastRise (λ k. list_any (p k a) (drop (i + 1) xs)) old new →
    IsRiseSoFar p xs (i + 1) most new
so_far_more {A = A} p xs i a most old new l e h one =
    let split : drop i xs ≡ a ∷ drop (i + 1) xs = subst (λ (z : A). drop i xs ≡ z ∷ drop (i + 1) xs) (sym e) (rw (next i) at (drop-cons xs i a l)) in
    record {
      bound = omega (arith, h.bound, one.bound);
      reaches = λ m. elim (cases_lt new old) [
        | inl n ↦ some_two_behind (p new) i xs (subst (λ (z : List A). some_two (p new) z ≡ true) (sym split) (first_true (list_any (p new a) (drop (i + 1) xs)) (some_two (p new) (drop (i + 1) xs)) (one.reaches n)))
        | inr n ↦ kept (omega (arith, n, one.bound)) m
      ];
      least = λ k t. elim (h.least k t) [
        | inl n ↦ inl (omega (arith, n, one.bound))
        | inr u ↦ elim (either_true (list_any (p k a) (drop (i + 1) xs)) (some_two (p k) (drop (i + 1) xs)) (subst (λ (z : List A). some_two (p k) z ≡ true) split u)) [ inl v ↦ inl (one.least k v) | inr v ↦ inr v ]
      ];
    }
  where
    next : (i : ℕ) → suc i ≡ i + 1
    next i = omega arith

    first_true : (p q : Bool) → p ≡ true → (p || q) ≡ true
    first_true true q h = refl
    first_true false q h = absurd (let e : false ≡ true = h in cc)

    kept : new ≡ old → new < most → some_two (p new) xs ≡ true
    kept e m = subst (λ z. some_two (p z) xs ≡ true) (sym e) (h.reaches (subst (λ z. z < most) e m))

pub so_far_all : {A : Type 0} (p : ℕ → A → A → Bool) (xs : List A) (i most rise : ℕ) → length xs ≤ i → IsRiseSoFar p xs i most rise → IsLeastRise (λ k. some_two (p k) xs) most rise
so_far_all {A = A} p xs i most rise l h = record {
  bound = h.bound;
  reaches = h.reaches;
  least = λ k t. elim (h.least k t) [ inl n ↦ n | inr u ↦ absurd (none (p k) i xs l u) ];
}
  where
    none : (q : A → A → Bool) (i : ℕ) (ys : List A) → length ys ≤ i → some_two q (drop i ys) ≡ true → ⊥
    none q zero [] l u = absurd (let e : false ≡ true = u in cc)
    none q (suc i) [] l u = absurd (let e : false ≡ true = u in cc)
    none q zero (y ∷ ys) l u = omega (arith, l)
    none q (suc i) (y ∷ ys) l u = none q i ys (omega (arith, l)) u

-- ---- what is within
abbrev in_some_risen : List ArcShape → Point → ℕ → Bool
in_some_risen arcs x k = some_two (in_risen x k) arcs

risen_within : (arcs : List ArcShape) (x : Point) (k : ℕ) → in_triangles arcs x ≡ false → (in_some_risen arcs x k ≡ true → Within Closed arcs x (CONICAL_SLOPE * k)) × (Within Closed arcs x (CONICAL_SLOPE * k) → in_some_risen arcs x k ≡ true)
risen_within arcs x k n = within_apart Closed arcs x (CONICAL_SLOPE * k) (in_some_risen arcs x k) n refl

pub rise_is : (arcs : List ArcShape) (x : Point) (rise : ℕ) → in_triangles arcs x ≡ false → IsLeastRise (in_some_risen arcs x) (CONICAL_RISE + 1) rise → rise ≤ CONICAL_RISE → IsRise arcs x rise
rise_is arcs x rise n h l = record {
  bound = l;
  reaches = (risen_within arcs x rise n).0 (h.reaches (omega (arith, l)));
  least = λ k w. h.least k ((risen_within arcs x k n).1 w);
}

pub no_rise : (arcs : List ArcShape) (x : Point) (rise : ℕ) → in_triangles arcs x ≡ false → IsLeastRise (in_some_risen arcs x) (CONICAL_RISE + 1) rise → CONICAL_RISE < rise → Within Closed arcs x CONICAL_RUN → ⊥
no_rise arcs x rise n h l w =
    let m : rise ≤ CONICAL_RISE = h.least CONICAL_RISE ((risen_within arcs x CONICAL_RISE n).1 w) in
    omega (arith, l, m)

-- a triangle lies under the horizontal surface
pub rise_in_triangle : (arcs : List ArcShape) (x : Point) (t : Bool) → t ≡ in_triangles arcs x → t ≡ true → IsRise arcs x 0
rise_in_triangle arcs x t h f = record {
  bound = omega arith;
  reaches = (Within-test Closed arcs x (CONICAL_SLOPE * 0)).0 (sym (within_by_triangle Closed arcs x (CONICAL_SLOPE * 0) t h f));
  least = λ k w. omega arith;
}
