-- The tests of the specifications decide what they say.
use Rattle.std.proofs.Common.{◌↔◌, ◌&&◌, ◌||◌, if◌then◌else◌, Bool, true, false, List, ℕ, ◌+◌, ◌*◌, ◌≤◌, ◌<◌, ℤ, pos, neg_ℤ, ◌-ℤ◌, arith}
use Rattle.std.specs.Prelude.{IsTrue, nat_le, nat_lt, MatchBool}
use Rattle.grid_exact.specs.declared.point.Point.{Point}
use Rattle.grid_exact.specs.Root.{AtMostRoot}
use Rattle.grid_exact.specs.Excess.{is_at_most_root}
use Rattle.grid_exact.proofs.TestFacts.{above_in, above_out, all_true, at_least_in, at_least_out, at_most_in, at_most_out, first_true, second_true, third_true}
use Rattle.center_polygon.specs.Somes.{some_two}
use Rattle.center_polygon.specs.Triangles.{in_some_triangle}
use Rattle.center_polygon.proofs.Deciding.{InSomeTriangle-test}
use Rattle.horizontal_hull.specs.declared.edge.Edge.{Edge}
use Rattle.horizontal_hull.specs.declared.edge.Edge.TheVariants.{Closed, Open}
use Rattle.horizontal_hull.specs.Arcs.{ArcShape, centers_of}
use Rattle.horizontal_hull.specs.Capsules.{InBand, InCapsule, InDisc, InTapered, ReachesRoot, distance_ahead, distance_aside, distance_away, flare, in_band, in_capsule, in_disc, in_tapered, reaches_root, span, tangent, tangent_reach}
use Rattle.horizontal_hull.specs.Within.{Within, is_within}
use Rattle.center_polygon.proofs.SomeFacts.{SomeTwo-test, and_test, or_test}

-- ---- comparisons of numbers
nat_le_test : (a b : ℕ) → IsTrue (nat_le a b) ↔ a ≤ b
nat_le_test a b = grind arith

nat_lt_test : (a b : ℕ) → IsTrue (nat_lt a b) ↔ a < b
nat_lt_test a b = grind arith

at_most_test : (a b : ℤ) (n : ℕ) → IsTrue (is_at_most_root a b n) ↔ AtMostRoot a b n
at_most_test a b n = (at_most_in a b n, at_most_out a b n)

if_test : {P Q : Type 0} (b p q : Bool) → (IsTrue p ↔ P) → (IsTrue q ↔ Q) → IsTrue (if b then p else q) ↔ MatchBool b P Q
if_test true p q h k = h
if_test false p q h k = k

-- ---- capsules
InDisc-test : (edge : Edge) (a : ArcShape) (x : Point) (c : ℕ) → IsTrue (in_disc edge a x c) ↔ InDisc edge a x c
InDisc-test Closed a x c = nat_le_test (distance_away a x) ((a.radius + c) * (a.radius + c))
InDisc-test Open a x c = nat_lt_test (distance_away a x) ((a.radius + c) * (a.radius + c))

ReachesRoot-test : (edge : Edge) (a : ℤ) (b n : ℕ) → IsTrue (reaches_root edge a b n) ↔ ReachesRoot edge a b n
ReachesRoot-test Closed a b n = (at_least_in a (pos b) n, at_least_out a (pos b) n)
ReachesRoot-test Open a b n = (above_in a (pos b) n, above_out a (pos b) n)

InBand-test : (edge : Edge) (a b : ArcShape) (x : Point) (c : ℕ) → IsTrue (in_band edge a b x c) ↔ InBand edge a b x c
InBand-test edge a b x c =
    let p : Bool = is_at_most_root (neg_ℤ (pos (flare a b * distance_aside a b x))) (distance_ahead a b x) (tangent a b) in
    let q : Bool = is_at_most_root (pos (flare a b * distance_aside a b x)) (pos (span a b) -ℤ distance_ahead a b x) (tangent a b) in
    let r : Bool = reaches_root edge (tangent_reach a b x c) (distance_aside a b x) (tangent a b) in
    let hp = at_most_test (neg_ℤ (pos (flare a b * distance_aside a b x))) (distance_ahead a b x) (tangent a b) in
    let hq = at_most_test (pos (flare a b * distance_aside a b x)) (pos (span a b) -ℤ distance_ahead a b x) (tangent a b) in
    let hr = ReachesRoot-test edge (tangent_reach a b x c) (distance_aside a b x) (tangent a b) in (
      λ t. record { after = hp.0 (first_true p q r t); before = hq.0 (second_true p q r t); under = hr.0 (third_true p q r t) },
      λ h. all_true p q r (hp.1 h.after) (hq.1 h.before) (hr.1 h.under),
    )

pub InTapered-test : (edge : Edge) (a b : ArcShape) (x : Point) (c : ℕ) → IsTrue (in_tapered edge a b x c) ↔ InTapered edge a b x c
InTapered-test edge a b x c =
    or_test (in_disc edge b x c) (nat_lt (flare a b * flare a b) (span a b) && (in_disc edge a x c || in_band edge a b x c)) (InDisc-test edge b x c)
    (and_test (nat_lt (flare a b * flare a b) (span a b)) (in_disc edge a x c || in_band edge a b x c) (nat_lt_test (flare a b * flare a b) (span a b))
    (or_test (in_disc edge a x c) (in_band edge a b x c) (InDisc-test edge a x c) (InBand-test edge a b x c)))

pub InCapsule-test : (edge : Edge) (a b : ArcShape) (x : Point) (c : ℕ) → IsTrue (in_capsule edge a b x c) ↔ InCapsule edge a b x c
unfolding in_capsule
InCapsule-test edge a b x c =
    if_test (nat_le a.radius b.radius) (in_tapered edge a b x c) (in_tapered edge b a x c) (InTapered-test edge a b x c) (InTapered-test edge b a x c)

-- ---- all together
pub Within-test : (edge : Edge) (arcs : List ArcShape) (x : Point) (c : ℕ) → IsTrue (is_within edge arcs x c) ↔ Within edge arcs x c
unfolding is_within Within
Within-test edge arcs x c =
    or_test (some_two (λ a b. in_capsule edge a b x c) arcs) (in_some_triangle (centers_of arcs) x)
    (SomeTwo-test (λ a b. InCapsule edge a b x c) (λ a b. in_capsule edge a b x c) (λ a b. InCapsule-test edge a b x c) arcs)
    (InSomeTriangle-test (centers_of arcs) x)
