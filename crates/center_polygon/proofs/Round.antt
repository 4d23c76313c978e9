-- A point is on the left hand all the way round some spots exactly where it is in a triangle of three of them.
use Rattle.std.proofs.Common.{◌≡◌, inl, inr, ◌↔◌, ◌&&◌, Bool, true, false, List, [], ◌∷◌, pos, ◌≤ℤ◌, arith, refl}
use Rattle.std.specs.Prelude.{IsTrue, int_le, int_lt}
use Rattle.std.specs.List.{All, list_all}
use Rattle.std.proofs.lemmas.Int.{ints, by_lt_z}
use Rattle.std.proofs.lemmas.List.Elements.{All-cons, All-nil}
use Rattle.grid_exact.specs.declared.point.Point.{Point}
use Rattle.center_polygon.specs.Spots.{Spot, at}
use Rattle.center_polygon.specs.Somes.{SomeOne, SomeThree}
use Rattle.center_polygon.specs.Triangles.{InSomeTriangle, InTriangle, IsInside, turn}
use Rattle.center_polygon.specs.Walks.{IsRound, is_among, is_spot, keeps_left, turns_on}
use Rattle.center_polygon.proofs.SomeFacts.{SomeOne-test, SomeThree_elim, SomeThree_of}
use Rattle.center_polygon.proofs.Deciding.{int_le_test, int_lt_test, is_spot-test}
use Rattle.center_polygon.proofs.Turns.{inside_edge, turn_back, turn_home, turn_round, turn_start}

-- both of two tests
both : (p q : Bool) → (p && q) ≡ true → (p ≡ true) × (q ≡ true)
both true q h = (refl, h)
both false q h = absurd (cc)

all_of : {A : Type 0} (p : A → Bool) (xs : List A) → list_all p xs ≡ true → All (λ a. p a ≡ true) xs
all_of p [] h = All-nil (λ a. p a ≡ true)
all_of p (a ∷ xs) h = let k = both (p a) (list_all p xs) h in All-cons (λ a. p a ≡ true) a xs k.0 (all_of p xs k.1)

-- ---- triangles of one three in each order
rotated : (x a b d : Spot) → InTriangle a b d x → InTriangle b d a x
rotated x a b d h =
    elim h [
      | inl t ↦ inl (record { proper = omega (arith, ints, turn_round a b d, t.proper); first = t.second; second = t.third; third = t.first })
      | inr t ↦ inr (record { proper = omega (arith, ints, turn_round b a d, t.proper); first = t.third; second = t.first; third = t.second })
    ]

swapped : (x a b d : Spot) → InTriangle a b d x → InTriangle a d b x
swapped x a b d h = elim h [ inl t ↦ inr t | inr t ↦ inl t ]

distinct : (x a d : Spot) → InTriangle a a d x → ⊥
distinct x a d h = elim h [ inl t ↦ omega (arith, ints, turn_start a d, t.proper) | inr t ↦ omega (arith, ints, turn_home a d, t.proper) ]

found : (spots : List Spot) (x a b d : Spot) → IsTrue (is_among spots a) → IsTrue (is_among spots b) → IsTrue (is_among spots d) → IsInside a b d x → SomeThree (λ a b d. InTriangle a b d x) spots
found spots x a b d ia ib id t =
    SomeThree_of (λ a b d. InTriangle a b d x) (rotated x) (swapped x) (distinct x) spots a b d (among spots a ia) (among spots b ib) (among spots d id) (inl t)
  where
    among : (spots : List Spot) (a : Spot) → IsTrue (is_among spots a) → SomeOne (λ b. a ≡ b) spots
    among spots a h = (SomeOne-test (λ b. a ≡ b) (is_spot a) (is_spot-test a) spots).0 h

-- ---- from the walk to a triangle: along the fan of the first corner
fan : (spots : List Spot) (x first corner next : Spot) (rest : List Spot) → IsTrue (is_among spots first) → IsTrue (is_among spots corner) → IsTrue (list_all (is_among spots) (next ∷ rest)) →
    IsTrue (turns_on first corner (next ∷ rest)) → pos 0 ≤ℤ turn x first corner → IsTrue (keeps_left x first corner (next ∷ rest)) → SomeThree (λ a b d. InTriangle a b d x) spots
fan spots x first corner next [] fi ci ri f s k =
    let i = both (is_among spots next) true ri in
    let t = both (int_lt (pos 0) (turn first corner next)) true f in
    let e = both (int_le (pos 0) (turn x corner next)) (int_le (pos 0) (turn x next first)) k in
    found spots x first corner next fi ci i.0
    (record { proper = (int_lt_test (pos 0) (turn first corner next)).0 t.0; first = s; second = (int_le_test (pos 0) (turn x corner next)).0 e.0; third = (int_le_test (pos 0) (turn x next first)).0 e.1 })
fan spots x first corner next (after ∷ rest) fi ci ri f s k =
    let i = both (is_among spots next) (list_all (is_among spots) (after ∷ rest)) ri in
    let t = both (int_lt (pos 0) (turn first corner next)) (turns_on first next (after ∷ rest)) f in
    let e = both (int_le (pos 0) (turn x corner next)) (keeps_left x first next (after ∷ rest)) k in
    by_lt_z (turn x first next) (pos 0)
    (λ low. found spots x first corner next fi ci i.0
    (record { proper = (int_lt_test (pos 0) (turn first corner next)).0 t.0; first = s; second = (int_le_test (pos 0) (turn x corner next)).0 e.0; third = omega (arith, ints, low, turn_back x next first) }))
    (λ high. fan spots x first next after rest fi i.0 i.1 t.1 high e.1)

inside_triangle : (spots : List Spot) (first : Spot) (rest : List Spot) (x : Spot) → IsRound spots first rest → IsTrue (keeps_left x first first rest) → SomeThree (λ a b d. InTriangle a b d x) spots
inside_triangle spots first [] x r k = absurd (let e : false ≡ true = r.fan in cc)
inside_triangle spots first (second ∷ []) x r k = absurd (let e : false ≡ true = r.fan in cc)
inside_triangle spots first (second ∷ third ∷ rest) x r k =
    let i = both (is_among spots second) (list_all (is_among spots) (third ∷ rest)) r.rest_are in
    let e = both (int_le (pos 0) (turn x first second)) (keeps_left x first second (third ∷ rest)) k in
    fan spots x first second third rest r.first_is i.0 i.1 r.fan ((int_le_test (pos 0) (turn x first second)).0 e.0) e.1

-- ---- from a triangle to the walk
inside_walk : (a b d x first corner : Spot) (rest : List Spot) → IsInside a b d x → IsTrue (keeps_left a first corner rest) → IsTrue (keeps_left b first corner rest) → IsTrue (keeps_left d first corner rest) → IsTrue (keeps_left x first corner rest)
inside_walk a b d x first corner [] t ha hb hd =
    let test = λ (s : Spot). int_le_test (pos 0) (turn s corner first) in
    (test x).1 (inside_edge a b d x corner first t ((test a).0 ha) ((test b).0 hb) ((test d).0 hd))
inside_walk a b d x first corner (next ∷ rest) t ha hb hd =
    let test = λ (s : Spot). int_le_test (pos 0) (turn s corner next) in
    let ka = both (int_le (pos 0) (turn a corner next)) (keeps_left a first next rest) ha in
    let kb = both (int_le (pos 0) (turn b corner next)) (keeps_left b first next rest) hb in
    let kd = both (int_le (pos 0) (turn d corner next)) (keeps_left d first next rest) hd in
    let one : int_le (pos 0) (turn x corner next) ≡ true = (test x).1 (inside_edge a b d x corner next t ((test a).0 ka.0) ((test b).0 kb.0) ((test d).0 kd.0)) in
    rw one (inside_walk a b d x first next rest t ka.1 kb.1 kd.1)

triangle_inside : (spots : List Spot) (first : Spot) (rest : List Spot) (x : Spot) → IsRound spots first rest → SomeThree (λ a b d. InTriangle a b d x) spots → IsTrue (keeps_left x first first rest)
triangle_inside spots first rest x r h =
    SomeThree_elim {R = λ c. keeps_left c first first rest ≡ true} {P = λ a b d. InTriangle a b d x}
    (λ a b d ha hb hd t. elim t [ inl i ↦ inside_walk a b d x first first rest i ha hb hd | inr i ↦ inside_walk a d b x first first rest i ha hd hb ])
    spots (all_of (λ c. keeps_left c first first rest) spots r.holds) h

pub keeps_left-InSomeTriangle : (spots : List Spot) (first : Spot) (rest : List Spot) (x : Point) → IsRound spots first rest → IsTrue (keeps_left (at x) first first rest) ↔ InSomeTriangle spots x
unfolding InSomeTriangle
keeps_left-InSomeTriangle spots first rest x r = (inside_triangle spots first rest (at x) r, triangle_inside spots first rest (at x) r)
