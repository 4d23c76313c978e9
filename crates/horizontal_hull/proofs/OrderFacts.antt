-- Two arcs in the order of their radii.
use Rattle.std.proofs.Common.{◌≡◌, ◌≤◌, Bool, true, false, if◌then◌else◌, ◌-ℤ◌, unsigned_abs, arith, ℤ, refl}
use Rattle.std.specs.Prelude.{IsTrue, MatchBool, nat_le}
use Rattle.std.proofs.lemmas.Int.{ints}
use Rattle.grid_exact.specs.declared.point.Point.{Point}
use Rattle.horizontal_hull.specs.declared.seen.Seen.{Seen}
use Rattle.horizontal_hull.specs.Arcs.{ArcShape}
use Rattle.horizontal_hull.specs.declared.edge.Edge.TheVariants.{Closed}
use Rattle.horizontal_hull.specs.Capsules.{InTapered, in_capsule}
use Rattle.horizontal_hull.specs.Close.{IsNearBoth}
use Rattle.horizontal_hull.specs.Sights.{IsSeen, IsSeenOf}
use Rattle.horizontal_hull.proofs.Tests.{InCapsule-test}

abbrev pub first_of : Bool → ArcShape → ArcShape → ArcShape
first_of p a b = if p then a else b

abbrev pub second_of : Bool → ArcShape → ArcShape → ArcShape
second_of p a b = if p then b else a

turned : (a b : ℤ) → unsigned_abs (b -ℤ a) ≡ unsigned_abs (a -ℤ b)
turned a b = omega (arith, ints)

near_ordered : (p : Bool) (a b : ArcShape) (x : Point) → IsNearBoth a b x → IsNearBoth (first_of p a b) (second_of p a b) x
near_ordered true a b x h = h
near_ordered false a b x h = record {
  way_x = omega (arith, turned a.x b.x, h.way_x);
  way_y = omega (arith, turned a.y b.y, h.way_y);
  first_x = h.second_x;
  first_y = h.second_y;
  second_x = h.first_x;
  second_y = h.first_y;
  first_radius = h.second_radius;
  second_radius = h.first_radius;
}

pub near_sorted : (a b first second : ArcShape) (x : Point) → first ≡ first_of (nat_le a.radius b.radius) a b → second ≡ second_of (nat_le a.radius b.radius) a b → IsNearBoth a b x → IsNearBoth first second x
near_sorted a b first second x e f h = rw (e, f) (near_ordered (nat_le a.radius b.radius) a b x h)

radius_ordered : (p : Bool) (a b : ArcShape) → nat_le a.radius b.radius ≡ p → (first_of p a b).radius ≤ (second_of p a b).radius
radius_ordered true a b e = grind (arith, e)
radius_ordered false a b e = grind (arith, e)

pub radius_sorted : (a b first second : ArcShape) → first ≡ first_of (nat_le a.radius b.radius) a b → second ≡ second_of (nat_le a.radius b.radius) a b → first.radius ≤ second.radius
radius_sorted a b first second e f = rw (e, f) (radius_ordered (nat_le a.radius b.radius) a b refl)

seen_ordered : (p : Bool) (a b : ArcShape) (x : Point) (s : Seen) → IsSeen (first_of p a b) (second_of p a b) x s → MatchBool p (IsSeen a b x s) (IsSeen b a x s)
seen_ordered true a b x s h = h
seen_ordered false a b x s h = h

pub seen_sorted : (a b first second : ArcShape) (x : Point) (s : Seen) → first ≡ first_of (nat_le a.radius b.radius) a b → second ≡ second_of (nat_le a.radius b.radius) a b → IsSeen first second x s → IsSeenOf a b x s
seen_sorted a b first second x s e f h = seen_ordered (nat_le a.radius b.radius) a b x s (rw (e, f) at h)

tapered_ordered : (p : Bool) (a b : ArcShape) (x : Point) → InTapered Closed (first_of p a b) (second_of p a b) x 0 → MatchBool p (InTapered Closed a b x 0) (InTapered Closed b a x 0)
tapered_ordered true a b x h = h
tapered_ordered false a b x h = h

pub tapered_sorted : (a b first second : ArcShape) (x : Point) → first ≡ first_of (nat_le a.radius b.radius) a b → second ≡ second_of (nat_le a.radius b.radius) a b → InTapered Closed first second x 0 →
    IsTrue (in_capsule Closed a b x 0)
tapered_sorted a b first second x e f h = (InCapsule-test Closed a b x 0).1 (tapered_ordered (nat_le a.radius b.radius) a b x (rw (e, f) at h))
