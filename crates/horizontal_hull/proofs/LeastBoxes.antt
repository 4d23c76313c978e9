-- The least box that holds some discs, and points in the box of an airport's surfaces.
use Rattle.std.proofs.Common.{◌≡◌, ◌↔◌, inl, inr, ℕ, ◌+◌, ◌<◌, pos, ◌+ℤ◌, ◌-ℤ◌, List, [], ◌∷◌, length, take, get_or, arith, subst, sym}
use Rattle.std.specs.List.{All}
use Rattle.std.proofs.lemmas.Int.{ints}
use Rattle.std.proofs.lemmas.List.Elements.{All-more, All-weaker}
use Rattle.grid_exact.specs.declared.area.Area.{Area}
use Rattle.grid_exact.specs.declared.point.Point.{Point}
use Rattle.grid_exact.specs.Area.{Has}
use Rattle.center_polygon.specs.Triangles.{InSomeTriangle}
use Rattle.outline_boxes.specs.Boxes.{Encloses, HoldsBoth, IsLeastBox}
use Rattle.outline_boxes.proofs.More.{Encloses_through}
use Rattle.horizontal_hull.specs.declared.edge.Edge.{Edge}
use Rattle.horizontal_hull.specs.declared.sizes.TheConstants.{BOX_REACH, CONICAL_RUN}
use Rattle.horizontal_hull.specs.Arcs.{ArcShape}
use Rattle.horizontal_hull.specs.Areas.{HoldsDiscs, disc_box}
use Rattle.horizontal_hull.specs.Close.{AreClose, IsNearReference, IsOuter}
use Rattle.horizontal_hull.specs.Within.{Within}
use Rattle.horizontal_hull.proofs.Reach.{Within_in_outer}

-- ---- a box that holds the discs of the first i arcs, and lies in each that holds all
pub record IsLeastSoFar (arcs : List ArcShape) (c i : ℕ) (box : Area) : Type 0 where
  pub holds : HoldsDiscs (take i arcs) c box
  pub least : (other : Area) → HoldsDiscs arcs c other → Encloses other box

pub least_at_first : (arcs : List ArcShape) (c : ℕ) (a : ArcShape) (box : Area) → 0 < length arcs → a ≡ get_or arcs 0 a → box ≡ disc_box c a → IsLeastSoFar arcs c 0 box
least_at_first arcs c a box l e b = record {
  holds = λ k d m. absurd (omega arith);
  least = λ other h. subst (λ (z : Area). Encloses other z) (sym b) (subst (λ (z : ArcShape). Encloses other (disc_box c z)) (sym e) (h 0 a l));
}

pub least_with_next : (arcs : List ArcShape) (c i : ℕ) (a : ArcShape) (box disc joined : Area) → i < length arcs → a ≡ get_or arcs i a → disc ≡ disc_box c a → IsLeastSoFar arcs c i box → IsLeastBox (HoldsBoth box disc) joined →
    IsLeastSoFar arcs c (i + 1) joined
least_with_next arcs c i a box disc joined l e b h j = record {
  holds = All-more (λ z. Encloses joined (disc_box c z)) arcs i a l
      (All-weaker (λ z. Encloses box (disc_box c z)) (λ z. Encloses joined (disc_box c z)) (λ z k. Encloses_through joined box (disc_box c z) j.holds.first k) (take i arcs) h.holds)
      (subst (λ (z : ArcShape). Encloses joined (disc_box c z)) e (subst (λ (z : Area). Encloses joined z) b j.holds.second));
  least = λ other k. j.least other (record {
    first = h.least other k;
    second = subst (λ (z : Area). Encloses other z) (sym b) (subst (λ (z : ArcShape). Encloses other (disc_box c z)) (sym e) (k i a l));
  });
}

-- ---- points in the box of the conical surface are near the reference point
abbrev around : Point → Area
around arp = record { x0 = arp.x -ℤ pos BOX_REACH; y0 = arp.y -ℤ pos BOX_REACH; x1 = arp.x +ℤ pos BOX_REACH; y1 = arp.y +ℤ pos BOX_REACH }

disc_around : (arp : Point) (a : ArcShape) → IsNearReference arp a → Encloses (around arp) (disc_box CONICAL_RUN a)
disc_around arp a h = record {
  west = omega (arith, ints, h.x, h.radius);
  east = omega (arith, ints, h.x, h.radius);
  south = omega (arith, ints, h.y, h.radius);
  north = omega (arith, ints, h.y, h.radius);
}

close_in_box : (arp : Point) (arcs : List ArcShape) (box : Area) (x : Point) → All (IsNearReference arp) arcs → IsLeastBox (HoldsDiscs arcs CONICAL_RUN) box → Has box x → AreClose arcs x
close_in_box arp arcs box x near least h =
    let e = least.least (around arp) (All-weaker (IsNearReference arp) (λ a. Encloses (around arp) (disc_box CONICAL_RUN a)) (disc_around arp) arcs near) in
    record { arp = arp; near = near; x_size = omega (arith, ints, e.west, e.east, h.west, h.east); y_size = omega (arith, ints, e.south, e.north, h.south, h.north) }

-- ---- the box outside which neither surface lies
nothing_within : (edge : Edge) (x : Point) (c : ℕ) → Within edge [] x c → ⊥
unfolding Within InSomeTriangle
nothing_within edge x c w = elim w [ inl h ↦ h | inr h ↦ h ]

pub outer_nothing : (arcs : List ArcShape) (box : Area) → length arcs ≡ 0 → ((x : Point) → Has box x → ⊥) → IsOuter arcs box
outer_nothing [] box e n = record { close = λ x h. absurd (n x h); all = λ edge x c l w. absurd (nothing_within edge x c w) }
outer_nothing (a ∷ arcs) box e n = absurd (omega (arith, e))

pub outer_least : (arp : Point) (arcs : List ArcShape) (least box : Area) → All (IsNearReference arp) arcs → IsLeastBox (HoldsDiscs arcs CONICAL_RUN) least → ((x : Point) → Has box x ↔ Has least x) → IsOuter arcs box
outer_least arp arcs least box near h same = record {
  close = λ x y. close_in_box arp arcs least x near h ((same x).0 y);
  all = λ edge x c l w. (same x).1 (Within_in_outer least edge arcs x c h.holds l w);
}
