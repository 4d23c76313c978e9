-- Nothing is within outside a box that holds the discs.
use Rattle.std.proofs.Common.{◌≢◌, inl, inr, List, ℕ, ◌+◌, ◌≤◌, arith, refl}
use Rattle.std.specs.List.{All}
use Rattle.std.proofs.lemmas.Int.{ints}
use Rattle.std.proofs.lemmas.List.Elements.{All-map, All-weaker}
use Rattle.grid_exact.specs.declared.area.Area.{Area}
use Rattle.grid_exact.specs.declared.cap.Cap.{Cap}
use Rattle.grid_exact.specs.declared.cap.Cap.TheVariants.{Level, Beyond}
use Rattle.grid_exact.specs.declared.point.Point.{Point}
use Rattle.grid_exact.specs.Area.{Has}
use Rattle.center_polygon.proofs.Boxes.{HasSpot, InSomeTriangle-Has}
use Rattle.center_polygon.proofs.SomeFacts.{SomeTwo_elim}
use Rattle.outline_boxes.specs.Boxes.{Encloses}
use Rattle.horizontal_hull.specs.declared.areas.HullAreas.{HullAreas}
use Rattle.horizontal_hull.specs.declared.edge.Edge.{Edge}
use Rattle.horizontal_hull.specs.declared.edge.Edge.TheVariants.{Closed, Open}
use Rattle.horizontal_hull.specs.declared.sizes.TheConstants.{CONICAL_RUN}
use Rattle.horizontal_hull.specs.Arcs.{ArcShape, Dome, spot_of}
use Rattle.horizontal_hull.specs.Areas.{AreHullAreas, CoverHull, HoldsDiscs, disc_box}
use Rattle.horizontal_hull.specs.Capsules.{InCapsule}
use Rattle.horizontal_hull.specs.Within.{IsCap, Within}
use Rattle.horizontal_hull.proofs.Bounds.{InGrown, capsule_in_grown}
use Rattle.horizontal_hull.proofs.Grows.{Within_closes, Within_grows}

-- ---- capsules
grown_in_box : (box : Area) (a b : ArcShape) (x : Point) (c : ℕ) → Encloses box (disc_box c a) → Encloses box (disc_box c b) → InGrown a.x a.y (a.radius + c) b.x b.y (b.radius + c) x.x x.y → Has box x
grown_in_box box a b x c ea eb g = record {
  west = elim g.west [ inl h ↦ omega (arith, ints, h, ea.west) | inr h ↦ omega (arith, ints, h, eb.west) ];
  east = elim g.east [ inl h ↦ omega (arith, ints, h, ea.east) | inr h ↦ omega (arith, ints, h, eb.east) ];
  south = elim g.south [ inl h ↦ omega (arith, ints, h, ea.south) | inr h ↦ omega (arith, ints, h, eb.south) ];
  north = elim g.north [ inl h ↦ omega (arith, ints, h, ea.north) | inr h ↦ omega (arith, ints, h, eb.north) ];
}

capsule_in_box : (box : Area) (x : Point) (c : ℕ) (a b : ArcShape) → Encloses box (disc_box c a) → Encloses box (disc_box c b) → InCapsule Closed a b x c → Has box x
capsule_in_box box x c a b ea eb h = grown_in_box box a b x c ea eb (capsule_in_grown a b x c h)

-- ---- centers
center_in_box : (box : Area) (c : ℕ) (a : ArcShape) → Encloses box (disc_box c a) → HasSpot box (spot_of a)
center_in_box box c a e = record { west = omega (arith, ints, e.west); east = omega (arith, ints, e.east); south = omega (arith, ints, e.south); north = omega (arith, ints, e.north) }

-- ---- all together
closed_in_box : (box : Area) (arcs : List ArcShape) (x : Point) (c : ℕ) → HoldsDiscs arcs c box → Within Closed arcs x c → Has box x
unfolding Within
closed_in_box box arcs x c d h =
    elim h [
      | inl two ↦ SomeTwo_elim {R = λ a. Encloses box (disc_box c a)} {P = λ a b. InCapsule Closed a b x c} (capsule_in_box box x c) arcs d two
      | inr three ↦
          (let centers : All (λ a. HasSpot box (spot_of a)) arcs = All-weaker (λ a. Encloses box (disc_box c a)) (λ a. HasSpot box (spot_of a)) (center_in_box box c) arcs d in
          InSomeTriangle-Has box _ x (All-map (HasSpot box) spot_of arcs centers) three)
    ]

pub Within_in_box : (box : Area) (edge : Edge) (arcs : List ArcShape) (x : Point) (c : ℕ) → HoldsDiscs arcs c box → Within edge arcs x c → Has box x
Within_in_box box Closed arcs x c d h = closed_in_box box arcs x c d h
Within_in_box box Open arcs x c d h = closed_in_box box arcs x c d (Within_closes arcs x c h)

-- the outer box has what is within any way of the conical surface
pub Within_in_outer : (box : Area) (edge : Edge) (arcs : List ArcShape) (x : Point) (c : ℕ) → HoldsDiscs arcs CONICAL_RUN box → c ≤ CONICAL_RUN → Within edge arcs x c → Has box x
Within_in_outer box edge arcs x c d l h = Within_in_box box edge arcs x CONICAL_RUN d (Within_grows edge arcs x c CONICAL_RUN l h)

pub areas_cover : (d : Dome) (a : HullAreas) → AreHullAreas d.arcs a → CoverHull d a
areas_cover d a h = record {
  horizontal_has = λ x w. Within_in_box a.horizontal Closed d.arcs x 0 h.horizontal_least.holds w;
  conical_has = λ x w. Within_in_box a.conical Closed d.arcs x CONICAL_RUN h.conical_least.holds w;
  cap_has = λ x cap i n. Within_in_box a.conical Closed d.arcs x CONICAL_RUN h.conical_least.holds (capped x cap i n);
}
  where
    capped : (x : Point) (cap : Cap) → IsCap d x cap → cap ≢ Beyond → Within Closed d.arcs x CONICAL_RUN
    capped x (Level z) i n = elim i [ inl j ↦ Within_grows Closed d.arcs x 0 CONICAL_RUN (omega arith) j.0 | inr j ↦ j.0.within_outer ]
    capped x Beyond i n = absurd (n refl)
