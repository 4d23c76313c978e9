-- A point beside both discs of a capsule is not in it.
use Rattle.std.proofs.Common.{◌≡◌, ◌⊎◌, inl, inr, false, ℕ, ◌+◌, ℤ, pos, ◌+ℤ◌, ◌-ℤ◌, ◌≤ℤ◌, ◌<ℤ◌, neg_ℤ, arith, sym}
use Rattle.std.proofs.lemmas.Int.{ints}
use Rattle.grid_exact.specs.declared.point.Point.{Point}
use Rattle.center_polygon.proofs.SomeFacts.{false_test}
use Rattle.horizontal_hull.specs.declared.edge.Edge.{Edge}
use Rattle.horizontal_hull.specs.declared.edge.Edge.TheVariants.{Closed, Open}
use Rattle.horizontal_hull.specs.Arcs.{ArcShape}
use Rattle.horizontal_hull.specs.Capsules.{InCapsule, in_capsule}
use Rattle.horizontal_hull.specs.Close.{IsBeside}
use Rattle.horizontal_hull.proofs.Bounds.{InGrown, capsule_in_grown}
use Rattle.horizontal_hull.proofs.Grows.{InCapsule_closes}
use Rattle.horizontal_hull.proofs.Tests.{InCapsule-test}

west : (a b x : ℤ) (m n : ℕ) → pos m <ℤ (x -ℤ a) → pos n <ℤ (x -ℤ b) → (x ≤ℤ (a +ℤ pos m)) ⊎ (x ≤ℤ (b +ℤ pos n)) → ⊥
west a b x m n h k i = elim i [ inl l ↦ omega (arith, ints, h, l) | inr l ↦ omega (arith, ints, k, l) ]

east : (a b x : ℤ) (m n : ℕ) → (x -ℤ a) <ℤ neg_ℤ (pos m) → (x -ℤ b) <ℤ neg_ℤ (pos n) → ((a -ℤ pos m) ≤ℤ x) ⊎ ((b -ℤ pos n) ≤ℤ x) → ⊥
east a b x m n h k i = elim i [ inl l ↦ omega (arith, ints, h, l) | inr l ↦ omega (arith, ints, k, l) ]

closed_beside : (a b : ArcShape) (x : Point) (c : ℕ) → IsBeside a b x c → InCapsule Closed a b x c → ⊥
closed_beside a b x c h k =
    let g : InGrown a.x a.y (a.radius + c) b.x b.y (b.radius + c) x.x x.y = capsule_in_grown a b x c k in
    elim h [
      | inl p ↦ elim p [ inl q ↦ west a.x b.x x.x (a.radius + c) (b.radius + c) q.0 q.1 g.east | inr q ↦ east a.x b.x x.x (a.radius + c) (b.radius + c) q.0 q.1 g.west ]
      | inr p ↦ elim p [ inl q ↦ west a.y b.y x.y (a.radius + c) (b.radius + c) q.0 q.1 g.north | inr q ↦ east a.y b.y x.y (a.radius + c) (b.radius + c) q.0 q.1 g.south ]
    ]

beside_none : (edge : Edge) (a b : ArcShape) (x : Point) (c : ℕ) → IsBeside a b x c → InCapsule edge a b x c → ⊥
beside_none Closed a b x c h k = closed_beside a b x c h k
beside_none Open a b x c h k = closed_beside a b x c h (InCapsule_closes a b x c k)

pub not_in_capsule : (edge : Edge) (a b : ArcShape) (x : Point) (c : ℕ) → IsBeside a b x c → false ≡ in_capsule edge a b x c
not_in_capsule edge a b x c h = sym (false_test (in_capsule edge a b x c) (InCapsule-test edge a b x c) (beside_none edge a b x c h))
