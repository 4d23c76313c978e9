-- Where no two of some spots are off a line with one of them, no three are on a triangle.
use Rattle.std.proofs.Common.{◌≡◌, ◌⊎◌, inl, inr, ◌<◌, true, false, List, [], ◌∷◌, length, ℤ, pos, ◌<ℤ◌, neg_ℤ, arith, sym, ◌∙◌}
use Rattle.std.specs.Prelude.{IsTrue, int_lt}
use Rattle.std.proofs.lemmas.Bool.{cases_Bool}
use Rattle.std.proofs.lemmas.Int.{by_lt_z, ints}
use Rattle.grid_exact.specs.declared.point.Point.{Point}
use Rattle.center_polygon.specs.Spots.{Spot, at}
use Rattle.center_polygon.specs.Somes.{SomeOne, SomeThree, SomeTwo, some_two}
use Rattle.center_polygon.specs.Triangles.{InSomeTriangle, InTriangle, is_bent, turn}
use Rattle.center_polygon.proofs.SomeFacts.{SomeThree_map, SomeTwo-test, or_test}
use Rattle.center_polygon.proofs.Deciding.{int_lt_test}
use Rattle.center_polygon.proofs.Turns.{area_sum, turn_back}

abbrev Bent : Spot → Spot → Spot → Type 0
Bent a b d = IsTrue (is_bent a b d)

is_bent-test : (a b d : Spot) → (Bent a b d → (pos 0 <ℤ turn a b d) ⊎ (pos 0 <ℤ turn a d b)) × ((pos 0 <ℤ turn a b d) ⊎ (pos 0 <ℤ turn a d b) → Bent a b d)
is_bent-test a b d = or_test (int_lt (pos 0) (turn a b d)) (int_lt (pos 0) (turn a d b)) (int_lt_test (pos 0) (turn a b d)) (int_lt_test (pos 0) (turn a d b))

triangle_bent : (x a b d : Spot) → InTriangle a b d x → Bent a b d
triangle_bent x a b d h = elim h [ inl t ↦ (is_bent-test a b d).1 (inl t.proper) | inr t ↦ (is_bent-test a b d).1 (inr t.proper) ]

-- where three are off a line, some two of them are with each other spot
straight : (a b d : Spot) → is_bent a b d ≡ false → turn a b d ≡ pos 0
straight a b d f =
    let h = is_bent-test a b d in
    let up : pos 0 <ℤ turn a b d → ⊥ = λ l. let t : is_bent a b d ≡ true = h.1 (inl l) in let e : true ≡ false = sym t ∙ f in cc in
    let down : pos 0 <ℤ turn a d b → ⊥ = λ l. let t : is_bent a b d ≡ true = h.1 (inr l) in let e : true ≡ false = sym t ∙ f in cc in
    none (turn a b d) (turn a d b) (turn_back a b d) up down
  where
    none : (m n : ℤ) → m ≡ neg_ℤ n → (pos 0 <ℤ m → ⊥) → (pos 0 <ℤ n → ⊥) → m ≡ pos 0
    none m n e up down =
        by_lt_z (pos 0) m (λ l. absurd (up l)) (λ l. by_lt_z (pos 0) n (λ k. absurd (down k)) (λ k. omega (arith, ints, e, l, k)))

one_of : (p a b d : Spot) → Bent a b d → Bent p a b ⊎ (Bent p a d ⊎ Bent p b d)
one_of p a b d h =
    elim (cases_Bool (is_bent p a b)) [
      | inl t ↦ inl t
      | inr f ↦ elim (cases_Bool (is_bent p a d)) [
        | inl t ↦ inr (inl t)
        | inr g ↦ elim (cases_Bool (is_bent p b d)) [
          | inl t ↦ inr (inr t)
          | inr k ↦ absurd (flat (straight p a b f) (straight p a d g) (straight p b d k))
        ]
      ]
    ]
  where
    flat : turn p a b ≡ pos 0 → turn p a d ≡ pos 0 → turn p b d ≡ pos 0 → ⊥
    flat u v w =
        let z : turn a b d ≡ pos 0 = omega (arith, ints, area_sum a b d p, turn_back p d a, u, v, w) in
        elim ((is_bent-test a b d).0 h) [ inl l ↦ omega (arith, ints, l, z) | inr l ↦ omega (arith, ints, l, z, turn_back a b d) ]

-- with the last one among some
last_of : (p a b : Spot) (xs : List Spot) → SomeOne (Bent a b) xs → Bent p a b ⊎ (SomeOne (Bent p a) xs ⊎ SomeOne (Bent p b) xs)
last_of p a b [] h = absurd h
last_of p a b (d ∷ xs) h =
    elim h [
      | inl t ↦ elim (one_of p a b d t) [ inl u ↦ inl u | inr v ↦ elim v [ inl w ↦ inr (inl (inl w)) | inr w ↦ inr (inr (inl w)) ] ]
      | inr t ↦ elim (last_of p a b xs t) [ inl u ↦ inl u | inr v ↦ elim v [ inl w ↦ inr (inl (inr w)) | inr w ↦ inr (inr (inr w)) ] ]
    ]

-- with the last two
two_of : (p a : Spot) (xs : List Spot) → SomeTwo (Bent a) xs → SomeOne (Bent p a) xs ⊎ SomeTwo (Bent p) xs
two_of p a [] h = absurd h
two_of p a (b ∷ xs) h =
    elim h [
      | inl t ↦ elim (last_of p a b xs t) [ inl u ↦ inl (inl u) | inr v ↦ elim v [ inl w ↦ inl (inr w) | inr w ↦ inr (inl w) ] ]
      | inr t ↦ elim (two_of p a xs t) [ inl u ↦ inl (inr u) | inr v ↦ inr (inr v) ]
    ]

three_of : (p : Spot) (xs : List Spot) → SomeThree Bent xs → SomeTwo (Bent p) xs
three_of p [] h = absurd h
three_of p (a ∷ xs) h = elim h [ inl t ↦ two_of p a xs t | inr t ↦ inr (three_of p xs t) ]

pub none_of_none : (spots : List Spot) (x : Point) → length spots < 1 → InSomeTriangle spots x → ⊥
unfolding InSomeTriangle
none_of_none [] x l h = h
none_of_none (a ∷ spots) x l h = omega (arith, l)

-- any spot serves
pub none_on_line : (p : Spot) (spots : List Spot) (x : Point) → some_two (is_bent p) spots ≡ false → InSomeTriangle spots x → ⊥
unfolding InSomeTriangle
none_on_line p spots x f h =
    let b : SomeThree Bent spots = SomeThree_map {P = λ a b d. InTriangle a b d (at x)} {Q = Bent} (triangle_bent (at x)) spots h in
    let t : some_two (is_bent p) spots ≡ true = (SomeTwo-test (Bent p) (is_bent p) (λ a b. (λ u. u, λ u. u)) spots).1 (three_of p spots b) in
    let e : true ≡ false = sym t ∙ f in
    cc
