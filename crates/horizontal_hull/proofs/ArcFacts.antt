-- The arcs of an airport's runways are near its reference point.
use Rattle.std.proofs.Common.{◌≤◌, ℕ, ℤ, ◌-ℤ◌, unsigned_abs, List, [], ◌∷◌, Bool, true, false, if◌then◌else◌, arith}
use Rattle.std.specs.List.{All, flat_map}
use Rattle.std.proofs.lemmas.Int.{ints}
use Rattle.std.proofs.lemmas.List.Elements.{All-append, All-cons, All-head, All-nil, All-tail}
use Rattle.grid_exact.specs.declared.point.Point.{Point}
use Rattle.runway_classes.specs.declared.ApproachKind.{ApproachKind}
use Rattle.runway_classes.specs.declared.ApproachKind.TheVariants.{Visual, NonprecisionAbove, NonprecisionLow, Precision}
use Rattle.runway_classes.specs.Class.{more_precise, radius}
use Rattle.airfields.specs.declared.airfield.Airport.{Airport}
use Rattle.airfields.specs.declared.limits.TheConstants.{RUNWAY_REACH}
use Rattle.airfields.specs.declared.runway.Runway.{Runway}
use Rattle.airfields.specs.Categories.{has_civil_surfaces}
use Rattle.airfields.specs.Runways.{HasNearEnds, effective, distance_apart, length_square}
use Rattle.runway_lines.specs.Centers.{center}
use Rattle.runway_lines.specs.declared.end.End.TheVariants.{One, Two}
use Rattle.runway_lines.proofs.CenterFacts.{extended_near}
use Rattle.horizontal_hull.specs.Arcs.{ArcShape, arc, arcs_of, arcs_of_runway}
use Rattle.horizontal_hull.specs.declared.sizes.TheConstants.{ARC_MOST, CENTER_REACH}
use Rattle.horizontal_hull.specs.Close.{IsNearReference}

center_near : (hard : Bool) (here there arp : ℤ) (n : ℕ) → distance_apart here arp ≤ RUNWAY_REACH → unsigned_abs (center hard here there n -ℤ arp) ≤ CENTER_REACH
center_near true here there arp n h = let e = extended_near here there n in omega (arith, ints, h, e.0, e.1)
center_near false here there arp n h = omega (arith, h)

radius_most : (utility : Bool) (most : ApproachKind) → unsigned_abs (radius utility most) ≤ ARC_MOST
radius_most true most = omega arith
radius_most false Visual = omega arith
radius_most false NonprecisionAbove = omega arith
radius_most false NonprecisionLow = omega arith
radius_most false Precision = omega arith

first_near : (arp : Point) (r : Runway) → HasNearEnds arp r → IsNearReference arp (arc r One)
first_near arp r h = record {
  x = center_near r.hard r.end1.at.x r.end2.at.x arp.x (length_square r) h.end1.x;
  y = center_near r.hard r.end1.at.y r.end2.at.y arp.y (length_square r) h.end1.y;
  radius = radius_most r.utility (more_precise (effective r.end1) (effective r.end2));
}

second_near : (arp : Point) (r : Runway) → HasNearEnds arp r → IsNearReference arp (arc r Two)
second_near arp r h = record {
  x = center_near r.hard r.end2.at.x r.end1.at.x arp.x (length_square r) h.end2.x;
  y = center_near r.hard r.end2.at.y r.end1.at.y arp.y (length_square r) h.end2.y;
  radius = radius_most r.utility (more_precise (effective r.end1) (effective r.end2));
}

runways_near : (arp : Point) (runways : List Runway) → All (HasNearEnds arp) runways → All (IsNearReference arp) (flat_map arcs_of_runway runways)
runways_near arp [] h = All-nil (IsNearReference arp)
runways_near arp (r ∷ rs) h =
    let ends = All-head (HasNearEnds arp) r rs h in
    All-append (IsNearReference arp) (arcs_of_runway r) (flat_map arcs_of_runway rs)
    (All-cons (IsNearReference arp) (arc r One) (arc r Two ∷ []) (first_near arp r ends) (All-cons (IsNearReference arp) (arc r Two) [] (second_near arp r ends) (All-nil (IsNearReference arp))))
    (runways_near arp rs (All-tail (HasNearEnds arp) r rs h))

-- with or without civil surfaces
either_near : (arp : Point) (civil : Bool) (arcs : List ArcShape) → All (IsNearReference arp) arcs → All (IsNearReference arp) (if civil then arcs else [])
either_near arp true arcs h = h
either_near arp false arcs h = All-nil (IsNearReference arp)

pub arcs_near : (a : Airport) → All (HasNearEnds a.arp) a.runways → All (IsNearReference a.arp) (arcs_of a)
arcs_near a h = either_near a.arp (has_civil_surfaces a.category) (flat_map arcs_of_runway a.runways) (runways_near a.arp a.runways h)
