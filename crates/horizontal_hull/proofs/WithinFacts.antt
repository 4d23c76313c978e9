-- What is within, by its two parts, and where one of them has no point.
use Rattle.std.proofs.Common.{◌≡◌, ◌↔◌, ℕ, List, Bool, true, false, ◌||◌, IsTrue, refl, sym, ◌∙◌}
use Rattle.grid_exact.specs.declared.point.Point.{Point}
use Rattle.center_polygon.specs.Somes.{some_two}
use Rattle.center_polygon.specs.Triangles.{in_some_triangle}
use Rattle.horizontal_hull.specs.declared.edge.Edge.{Edge}
use Rattle.horizontal_hull.specs.declared.edge.Edge.TheVariants.{Closed}
use Rattle.horizontal_hull.specs.Arcs.{ArcShape, centers_of}
use Rattle.horizontal_hull.specs.Capsules.{in_capsule}
use Rattle.horizontal_hull.specs.Within.{Within, is_within}
use Rattle.center_polygon.proofs.SomeFacts.{false_test}
use Rattle.horizontal_hull.proofs.Tests.{Within-test}

-- ---- the two parts of what is within
abbrev in_capsules : Edge → List ArcShape → Point → ℕ → Bool
in_capsules edge arcs x c = some_two (λ a b. in_capsule edge a b x c) arcs

abbrev pub in_triangles : List ArcShape → Point → Bool
in_triangles arcs x = in_some_triangle (centers_of arcs) x

pub within_by_triangle : (edge : Edge) (arcs : List ArcShape) (x : Point) (c : ℕ) (t : Bool) → t ≡ in_triangles arcs x → t ≡ true → true ≡ is_within edge arcs x c
unfolding is_within
within_by_triangle edge arcs x c t h f =
    let e : in_triangles arcs x ≡ true = sym h ∙ f in
    rw e (sym (or_true (in_capsules edge arcs x c)))
  where
    or_true : (p : Bool) → (p || true) ≡ true
    or_true true = refl
    or_true false = refl

-- a point that is not within at some distance lies in no triangle
second_of : (p t : Bool) → (p || t) ≡ false → t ≡ false
second_of true t h = absurd (cc)
second_of false t h = h

or_false : (p t : Bool) → t ≡ false → (p || t) ≡ p
or_false true t h = refl
or_false false t h = h

no_triangle : (edge : Edge) (arcs : List ArcShape) (x : Point) (c : ℕ) → (Within edge arcs x c → ⊥) → in_triangles arcs x ≡ false
unfolding is_within
no_triangle edge arcs x c n =
    let f : is_within edge arcs x c ≡ false = false_test (is_within edge arcs x c) (Within-test edge arcs x c) n in
    second_of (in_capsules edge arcs x c) (in_triangles arcs x) f

only_capsules : (edge : Edge) (arcs : List ArcShape) (x : Point) (c : ℕ) → in_triangles arcs x ≡ false → is_within edge arcs x c ≡ in_capsules edge arcs x c
unfolding is_within
only_capsules edge arcs x c f = or_false (in_capsules edge arcs x c) (in_triangles arcs x) f

pub within_by_capsule : (edge : Edge) (arcs : List ArcShape) (x : Point) (c : ℕ) (p t : Bool) → t ≡ in_triangles arcs x → t ≡ false → p ≡ in_capsules edge arcs x c → p ≡ is_within edge arcs x c
within_by_capsule edge arcs x c p t h f k = k ∙ sym (only_capsules edge arcs x c (sym h ∙ f))

pub within_apart : (edge : Edge) (arcs : List ArcShape) (x : Point) (c : ℕ) (p : Bool) → in_triangles arcs x ≡ false → p ≡ in_capsules edge arcs x c → IsTrue p ↔ Within edge arcs x c
within_apart edge arcs x c p f h =
    let e : p ≡ is_within edge arcs x c = h ∙ sym (only_capsules edge arcs x c f) in
    rw e (Within-test edge arcs x c)

pub within_beyond : (edge : Edge) (arcs : List ArcShape) (x : Point) (c : ℕ) (p : Bool) → (Within Closed arcs x 0 → ⊥) → p ≡ in_capsules edge arcs x c → IsTrue p ↔ Within edge arcs x c
within_beyond edge arcs x c p n h = within_apart edge arcs x c p (no_triangle Closed arcs x 0 n) h

-- ---- where nothing is within
pub not_within : (edge : Edge) (arcs : List ArcShape) (x : Point) (c : ℕ) → (Within edge arcs x c → ⊥) → false ≡ is_within edge arcs x c
not_within edge arcs x c n = sym (false_test (is_within edge arcs x c) (Within-test edge arcs x c) n)
