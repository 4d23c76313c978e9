-- The tests of the specifications decide what they say.
use Rattle.std.proofs.Common.{◌≡◌, ◌↔◌, ◌&&◌, Bool, List, ℤ, pos, ◌≤ℤ◌, ◌<ℤ◌, arith, refl, sym, ap}
use Rattle.std.specs.Prelude.{IsTrue, int_le, int_lt}
use Rattle.std.specs.Ordering.{int_eq}
use Rattle.std.proofs.lemmas.Int.{ints}
use Rattle.grid_exact.specs.declared.point.Point.{Point}
use Rattle.grid_exact.proofs.TestFacts.{le_in, le_out, lt_in, lt_out, same_test}
use Rattle.center_polygon.specs.Spots.{Spot, at}
use Rattle.center_polygon.specs.Triangles.{InSomeTriangle, InTriangle, IsInside, in_some_triangle, in_triangle, is_inside, turn}
use Rattle.center_polygon.specs.Walks.{is_spot}
use Rattle.center_polygon.proofs.SomeFacts.{SomeThree-test, and_test, or_test}

pub int_le_test : (a b : ℤ) → IsTrue (int_le a b) ↔ a ≤ℤ b
int_le_test a b = (le_in a b, le_out a b)

pub int_lt_test : (a b : ℤ) → IsTrue (int_lt a b) ↔ a <ℤ b
int_lt_test a b = (lt_in a b, lt_out a b)

IsInside-test : (a b d x : Spot) → IsTrue (is_inside a b d x) ↔ IsInside a b d x
IsInside-test a b d x =
    let h =
    and_test (int_lt (pos 0) (turn a b d) && int_le (pos 0) (turn x a b)) (int_le (pos 0) (turn x b d) && int_le (pos 0) (turn x d a))
    (and_test (int_lt (pos 0) (turn a b d)) (int_le (pos 0) (turn x a b)) (int_lt_test (pos 0) (turn a b d)) (int_le_test (pos 0) (turn x a b)))
    (and_test (int_le (pos 0) (turn x b d)) (int_le (pos 0) (turn x d a)) (int_le_test (pos 0) (turn x b d)) (int_le_test (pos 0) (turn x d a))) in (
      λ t. let k = h.0 t in record { proper = k.0.0; first = k.0.1; second = k.1.0; third = k.1.1 },
      λ k. h.1 ((k.proper, k.first), (k.second, k.third)),
    )

InTriangle-test : (a b d x : Spot) → IsTrue (in_triangle a b d x) ↔ InTriangle a b d x
unfolding in_triangle
InTriangle-test a b d x = or_test (is_inside a b d x) (is_inside a d b x) (IsInside-test a b d x) (IsInside-test a d b x)

pub InSomeTriangle-test : (spots : List Spot) (x : Point) → IsTrue (in_some_triangle spots x) ↔ InSomeTriangle spots x
unfolding in_some_triangle InSomeTriangle
InSomeTriangle-test spots x =
    SomeThree-test (λ a b d. InTriangle a b d (at x)) (λ a b d. in_triangle a b d (at x)) (λ a b d. InTriangle-test a b d (at x)) spots

-- what decides it is the test
pub is_in_some_triangle : (spots : List Spot) (x : Point) (r : Bool) → (IsTrue r ↔ InSomeTriangle spots x) → r ≡ in_some_triangle spots x
is_in_some_triangle spots x r h = let t = InSomeTriangle-test spots x in same_test r (in_some_triangle spots x) h t.0 t.1

-- ---- a spot
spot : (a b : Spot) → a.x ≡ b.x → a.y ≡ b.y → a ≡ b
spot a b p q = rw (sym p, sym q) refl

pub is_spot-test : (a b : Spot) → IsTrue (is_spot a b) ↔ a ≡ b
is_spot-test a b =
    let h = and_test (int_eq a.x b.x) (int_eq a.y b.y) (int_eq_test a.x b.x) (int_eq_test a.y b.y) in
    (λ t. let k = h.0 t in spot a b k.0 k.1, λ e. h.1 (ap (λ (s : Spot). s.x) e, ap (λ (s : Spot). s.y) e))
  where
    int_eq_test : (a b : ℤ) → IsTrue (int_eq a b) ↔ a ≡ b
    int_eq_test a b = grind (arith, ints)
