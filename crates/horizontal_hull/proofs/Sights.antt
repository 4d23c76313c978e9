-- What two arcs see of a point says whether it lies in their capsule.
use Rattle.std.proofs.Common.{◌≡◌, ◌↔◌, inl, inr, Bool, true, false, ℕ, ℤ, pos, negsuc, ◌+◌, ◌*◌, ◌≤◌, ◌≤ℤ◌, unsigned_abs, IsTrue, nat_le, arith, if◌then◌else◌, refl}
use Rattle.std.specs.Prelude.{MatchBool}
use Rattle.std.proofs.lemmas.Int.{ints}
use Rattle.grid_exact.specs.declared.point.Point.{Point}
use Rattle.grid_exact.specs.Root.{AtLeastRoot}
use Rattle.grid_exact.proofs.TestFacts.{same_test}
use Rattle.horizontal_hull.specs.declared.edge.Edge.TheVariants.{Closed}
use Rattle.horizontal_hull.specs.declared.seen.Seen.{Seen}
use Rattle.horizontal_hull.specs.Arcs.{ArcShape}
use Rattle.horizontal_hull.specs.Capsules.{InTapered, distance_aside, in_capsule, in_tapered, tangent, tangent_reach}
use Rattle.horizontal_hull.specs.Sights.{InSight, IsSeen, IsSeenOf, IsUnder, width}
use Rattle.horizontal_hull.proofs.Tests.{InTapered-test}

-- ---- under a tangent
root_in : (w : ℤ) (q t r : ℕ) → r ≡ q * q * t → pos 0 ≤ℤ w → r ≤ unsigned_abs w * unsigned_abs w → AtLeastRoot w (pos q) t
root_in (pos m) q t r e h k = record { at_least = omega (arith, ints, e, k) }
root_in (negsuc m) q t r e h k = absurd (omega (arith, ints, h))

root_out : (w : ℤ) (q t r : ℕ) → r ≡ q * q * t → AtLeastRoot w (pos q) t → (pos 0 ≤ℤ w) × (r ≤ unsigned_abs w * unsigned_abs w)
root_out (pos m) q t r e h = (omega (arith, ints), omega (arith, ints, e, h.at_least))
root_out (negsuc m) q t r e h = absurd (omega (arith, ints, h.at_least))

width_is : (a b : ArcShape) (x : Point) (s : Seen) (c : ℕ) → IsSeen a b x s → width s c ≡ tangent_reach a b x c
width_is a b x s c h = rw (h.first_radius_is, h.square_is, h.lean_is) refl

under_in : (a b : ArcShape) (x : Point) (s : Seen) (c : ℕ) → IsSeen a b x s → IsUnder s c → AtLeastRoot (tangent_reach a b x c) (pos (distance_aside a b x)) (tangent a b)
under_in a b x s c h u = rw (width_is a b x s c h) at (root_in (width s c) (distance_aside a b x) (tangent a b) s.reach h.reach_is u.not_past u.reaches)

under_out : (a b : ArcShape) (x : Point) (s : Seen) (c : ℕ) → IsSeen a b x s → AtLeastRoot (tangent_reach a b x c) (pos (distance_aside a b x)) (tangent a b) → IsUnder s c
under_out a b x s c h u =
    let r = root_out (width s c) (distance_aside a b x) (tangent a b) s.reach h.reach_is (rw (width_is a b x s c h) u) in
    record { not_past = r.0; reaches = r.1 }

-- ---- in the tapered capsule
disc : (m r n t c : ℕ) → m ≡ n → r ≡ t → m ≤ (r + c) * (r + c) ↔ n ≤ (t + c) * (t + c)
disc m r n t c e f = rw (e, f) (λ h. h, λ h. h)

sight_in : (a b : ArcShape) (x : Point) (s : Seen) (c : ℕ) → IsSeen a b x s → InSight s c → InTapered Closed a b x c
sight_in a b x s c h k = elim k [
  | inl p ↦ inl ((disc s.second s.second_radius _ _ c h.second_is h.second_radius_is).0 p)
  | inr q ↦ elim q [
    | inl p ↦ inr (h.open_is.0 p.0, inl ((disc s.first s.first_radius _ _ c h.first_is h.first_radius_is).0 p.1))
    | inr p ↦ inr (let t = h.between_is.0 p.0 in (t.0, inr (record { after = t.1.0; before = t.1.1; under = under_in a b x s c h p.1 })))
  ]
]

sight_out : (a b : ArcShape) (x : Point) (s : Seen) (c : ℕ) → IsSeen a b x s → InTapered Closed a b x c → InSight s c
sight_out a b x s c h k = elim k [
  | inl p ↦ inl ((disc s.second s.second_radius _ _ c h.second_is h.second_radius_is).1 p)
  | inr q ↦ elim q.1 [
    | inl p ↦ inr (inl (h.open_is.1 q.0, (disc s.first s.first_radius _ _ c h.first_is h.first_radius_is).1 p))
    | inr p ↦ inr (inr (h.between_is.1 (q.0, (p.after, p.before)), under_out a b x s c h p.under))
  ]
]

seen_tapered : (a b : ArcShape) (x : Point) (s : Seen) (c : ℕ) (r : Bool) → IsSeen a b x s → (IsTrue r ↔ InSight s c) → r ≡ in_tapered Closed a b x c
seen_tapered a b x s c r h k =
    let t = InTapered-test Closed a b x c in
    same_test r (in_tapered Closed a b x c) (λ p. sight_in a b x s c h (k.0 p), λ p. k.1 (sight_out a b x s c h p)) t.0 t.1

-- ---- whichever is the smaller
either : (a b : ArcShape) (x : Point) (s : Seen) (c : ℕ) (r u : Bool) → MatchBool u (IsSeen a b x s) (IsSeen b a x s) → (IsTrue r ↔ InSight s c) → r ≡ (if u then in_tapered Closed a b x c else in_tapered Closed b a x c)
either a b x s c r true h k = seen_tapered a b x s c r h k
either a b x s c r false h k = seen_tapered b a x s c r h k

pub seen_capsule : (a b : ArcShape) (x : Point) (s : Seen) (c : ℕ) (r : Bool) → IsSeenOf a b x s → (IsTrue r ↔ InSight s c) → r ≡ in_capsule Closed a b x c
unfolding in_capsule
seen_capsule a b x s c r h k = either a b x s c r (nat_le a.radius b.radius) h k
