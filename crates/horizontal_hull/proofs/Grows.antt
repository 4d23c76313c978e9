-- What is within grows with the way beyond the arcs.
use Rattle.std.proofs.Common.{inl, inr, Bool, true, false, List, ℕ, ◌+◌, ◌*◌, ◌≤◌, ◌<◌, ℤ, pos, ◌+ℤ◌, ◌*ℤ◌, ◌≤ℤ◌, ◌<ℤ◌, arith}
use Rattle.std.specs.Prelude.{MatchBool, nat_le}
use Rattle.std.proofs.Math.Nat.{mul-le-mul, mul-le-mul_right}
use Rattle.std.proofs.lemmas.Int.{ints}
use Rattle.grid_exact.specs.declared.point.Point.{Point}
use Rattle.grid_exact.specs.Root.{AboveRoot, AtLeastRoot}
use Rattle.grid_exact.proofs.IntLaws.{signed_square_le, signed_square_lt}
use Rattle.grid_exact.proofs.RootOrder.{AtLeastRoot_more}
use Rattle.horizontal_hull.specs.declared.edge.Edge.{Edge}
use Rattle.horizontal_hull.specs.declared.edge.Edge.TheVariants.{Closed, Open}
use Rattle.horizontal_hull.specs.Arcs.{ArcShape}
use Rattle.horizontal_hull.specs.Capsules.{InCapsule, InDisc, InTapered, IsUnderTangent, distance_ahead, distance_aside, flare, span, tangent}
use Rattle.horizontal_hull.specs.Within.{Within}
use Rattle.center_polygon.proofs.SomeFacts.{SomeTwo_map}

-- ---- from capsules to all
match_map : {P Q P' Q' : Type 0} (b : Bool) → (P → P') → (Q → Q') → MatchBool b P Q → MatchBool b P' Q'
match_map true f g h = f h
match_map false f g h = g h

capsule_map : (edge edge' : Edge) (x : Point) (c c' : ℕ) → ((a b : ArcShape) → InTapered edge a b x c → InTapered edge' a b x c') → (a b : ArcShape) → InCapsule edge a b x c → InCapsule edge' a b x c'
capsule_map edge edge' x c c' f a b h = match_map (nat_le a.radius b.radius) (f a b) (f b a) h

within_map : (edge edge' : Edge) (arcs : List ArcShape) (x : Point) (c c' : ℕ) → ((a b : ArcShape) → InTapered edge a b x c → InTapered edge' a b x c') → Within edge arcs x c → Within edge' arcs x c'
unfolding Within
within_map edge edge' arcs x c c' f h =
    elim h [
      | inl two ↦ inl (SomeTwo_map {P = λ a b. InCapsule edge a b x c} {Q = λ a b. InCapsule edge' a b x c'} (capsule_map edge edge' x c c' f) arcs two)
      | inr three ↦ inr three
    ]

tapered_map : (edge edge' : Edge) (x : Point) (c c' : ℕ) → ((a : ArcShape) → InDisc edge a x c → InDisc edge' a x c') →
    ((a b : ArcShape) → flare a b * flare a b < span a b → IsUnderTangent edge a b x c → IsUnderTangent edge' a b x c') → (a b : ArcShape) → InTapered edge a b x c → InTapered edge' a b x c'
tapered_map edge edge' x c c' disc under a b h =
    elim h [
      | inl d ↦ inl (disc b d)
      | inr t ↦ inr (
        t.0,
        elim t.1 [
          | inl d ↦ inl (disc a d)
          | inr band ↦ inr (record { after = band.after; before = band.before; under = under a b t.0 band.under })
        ],
      )
    ]

-- ---- discs
square_le : (r c c' : ℕ) → c ≤ c' → (r + c) * (r + c) ≤ (r + c') * (r + c')
square_le r c c' l = let m : r + c ≤ r + c' = omega arith in mul-le-mul m m

square_lt : (r c c' : ℕ) → c < c' → (r + c) * (r + c) < (r + c') * (r + c')
square_lt r c c' l = let m : r + (c + 1) ≤ r + c' = omega arith in omega (arith, mul-le-mul m m)

disc_grows : (edge : Edge) (x : Point) (c c' : ℕ) → c ≤ c' → (a : ArcShape) → InDisc edge a x c → InDisc edge a x c'
disc_grows Closed x c c' l a h = omega (arith, square_le a.radius c c' l, h)
disc_grows Open x c c' l a h = omega (arith, square_le a.radius c c' l, h)

disc_opens : (x : Point) (c c' : ℕ) → c < c' → (a : ArcShape) → InDisc Closed a x c → InDisc Open a x c'
disc_opens x c c' l a h = omega (arith, square_lt a.radius c c' l, h)

disc_closes : (x : Point) (c : ℕ) (a : ArcShape) → InDisc Open a x c → InDisc Closed a x c
disc_closes x c a h = omega (arith, h)

-- ---- under a tangent
AboveRoot_more : (a a' b : ℤ) (n : ℕ) → a ≤ℤ a' → AboveRoot a b n → AboveRoot a' b n
AboveRoot_more a a' b n h k = record { above = omega (arith, ints, signed_square_le a a' h) }

AtLeastRoot_above : (a a' b : ℤ) (n : ℕ) → a <ℤ a' → AtLeastRoot a b n → AboveRoot a' b n
AtLeastRoot_above a a' b n h k = record { above = omega (arith, ints, signed_square_lt a a' h) }

AboveRoot-AtLeastRoot : (a b : ℤ) (n : ℕ) → AboveRoot a b n → AtLeastRoot a b n
AboveRoot-AtLeastRoot a b n h = record { at_least = omega (arith, ints) }

reach_le : (r c c' s : ℕ) (z : ℤ) → c ≤ c' → (pos ((r + c) * s) +ℤ z) ≤ℤ (pos ((r + c') * s) +ℤ z)
reach_le r c c' s z l = let m : r + c ≤ r + c' = omega arith in omega (arith, ints, mul-le-mul_right s m)

reach_lt : (r c c' s : ℕ) (z : ℤ) → 0 < s → c < c' → (pos ((r + c) * s) +ℤ z) <ℤ (pos ((r + c') * s) +ℤ z)
reach_lt r c c' s z p l = let m : r + (c + 1) ≤ r + c' = omega arith in omega (arith, ints, mul-le-mul_right s m)

under_grows : (edge : Edge) (x : Point) (c c' : ℕ) → c ≤ c' → (a b : ArcShape) → flare a b * flare a b < span a b → IsUnderTangent edge a b x c → IsUnderTangent edge a b x c'
under_grows Closed x c c' l a b p h = AtLeastRoot_more _ _ (pos (distance_aside a b x)) (tangent a b) (reach_le a.radius c c' (span a b) (pos (flare a b) *ℤ distance_ahead a b x) l) h
under_grows Open x c c' l a b p h = AboveRoot_more _ _ (pos (distance_aside a b x)) (tangent a b) (reach_le a.radius c c' (span a b) (pos (flare a b) *ℤ distance_ahead a b x) l) h

under_opens : (x : Point) (c c' : ℕ) → c < c' → (a b : ArcShape) → flare a b * flare a b < span a b → IsUnderTangent Closed a b x c → IsUnderTangent Open a b x c'
under_opens x c c' l a b p h =
    let s : 0 < span a b = positive (flare a b * flare a b) (span a b) p in
    AtLeastRoot_above _ _ (pos (distance_aside a b x)) (tangent a b) (reach_lt a.radius c c' (span a b) (pos (flare a b) *ℤ distance_ahead a b x) s l) h
  where
    positive : (m n : ℕ) → m < n → 0 < n
    positive m n l = omega arith

under_closes : (x : Point) (c : ℕ) (a b : ArcShape) → flare a b * flare a b < span a b → IsUnderTangent Open a b x c → IsUnderTangent Closed a b x c
under_closes x c a b p h = AboveRoot-AtLeastRoot _ (pos (distance_aside a b x)) (tangent a b) h

-- ---- what is within
pub Within_grows : (edge : Edge) (arcs : List ArcShape) (x : Point) (c c' : ℕ) → c ≤ c' → Within edge arcs x c → Within edge arcs x c'
Within_grows edge arcs x c c' l h = within_map edge edge arcs x c c' (tapered_map edge edge x c c' (disc_grows edge x c c' l) (under_grows edge x c c' l)) h

pub Within_opens : (arcs : List ArcShape) (x : Point) (c c' : ℕ) → c < c' → Within Closed arcs x c → Within Open arcs x c'
Within_opens arcs x c c' l h = within_map Closed Open arcs x c c' (tapered_map Closed Open x c c' (disc_opens x c c' l) (under_opens x c c' l)) h

pub Within_closes : (arcs : List ArcShape) (x : Point) (c : ℕ) → Within Open arcs x c → Within Closed arcs x c
Within_closes arcs x c h = within_map Open Closed arcs x c c (tapered_map Open Closed x c c (disc_closes x c) (under_closes x c)) h

-- ---- of one capsule
pub InCapsule_grows : (edge : Edge) (a b : ArcShape) (x : Point) (c c' : ℕ) → c ≤ c' → InCapsule edge a b x c → InCapsule edge a b x c'
InCapsule_grows edge a b x c c' l h = capsule_map edge edge x c c' (tapered_map edge edge x c c' (disc_grows edge x c c' l) (under_grows edge x c c' l)) a b h

pub InCapsule_closes : (a b : ArcShape) (x : Point) (c : ℕ) → InCapsule Open a b x c → InCapsule Closed a b x c
InCapsule_closes a b x c h = capsule_map Open Closed x c c (tapered_map Open Closed x c c (disc_closes x c) (under_closes x c)) a b h
