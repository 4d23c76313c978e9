-- The centers at the ends of primary surfaces, and how far the surfaces of a runway's class reach from them.
use Rattle.std.proofs.Common.{◌≡◌, ℕ, ℤ, pos, ◌+◌, ◌≤◌, ◌+ℤ◌, ◌-ℤ◌, ◌*ℤ◌, ◌≤ℤ◌, unsigned_abs, int_le, arith, refl, Bool, true, false, ◌||◌}
use Rattle.std.proofs.lemmas.Int.{ints}
use Rattle.grid_exact.proofs.TestFacts.{le_in}
use Rattle.grid_exact.specs.declared.point.Point.{Point}
use Rattle.runway_classes.specs.declared.ApproachKind.{ApproachKind}
use Rattle.runway_classes.specs.declared.ApproachKind.TheVariants.{Visual, NonprecisionAbove, NonprecisionLow, Precision}
use Rattle.runway_classes.specs.declared.class.EndClass.{EndClass}
use Rattle.runway_classes.specs.declared.class.RunwayClass.{RunwayClass}
use Rattle.runway_classes.specs.Class.{more_precise, radius, runway_class}
use Rattle.airfields.specs.Runways.{HasNearEnds, IsNear, effective, is_precision, length_square}
use Rattle.airfields.specs.declared.runway.Runway.{Runway}
use Rattle.runway_lines.specs.Centers.{center}
use Rattle.runway_lines.specs.Ends.{center_x, center_y, class_of, end_class_of, end_of}
use Rattle.runway_lines.specs.declared.end.End.{End}
use Rattle.runway_lines.specs.declared.end.End.TheVariants.{One, Two}
use Rattle.runway_lines.proofs.CenterFacts.{extended_near}
use Rattle.horizontal_hull.specs.declared.sizes.TheConstants.{CONICAL_RUN}

-- ---- a center is at most a setback from the end of the runway in each coordinate
center_close : (hard : Bool) (here there : ℤ) (n : ℕ) → unsigned_abs (center hard here there n -ℤ here) ≤ 2000
center_close true here there n = let e = extended_near here there n in omega (arith, ints, e.0, e.1)
center_close false here there n = omega (arith, ints)

pub record IsCloseTo (x y : ℤ) (at : Point) : Type 0 where
  pub x_close : unsigned_abs (x -ℤ at.x) ≤ 2000
  pub y_close : unsigned_abs (y -ℤ at.y) ≤ 2000

pub center_at : (r : Runway) (end : End) → IsCloseTo (center_x r end) (center_y r end) (end_of r end).at
center_at r One = record { x_close = center_close r.hard r.end1.at.x r.end2.at.x (length_square r); y_close = center_close r.hard r.end1.at.y r.end2.at.y (length_square r) }
center_at r Two = record { x_close = center_close r.hard r.end2.at.x r.end1.at.x (length_square r); y_close = center_close r.hard r.end2.at.y r.end1.at.y (length_square r) }

end_near : (arp : Point) (r : Runway) (end : End) → HasNearEnds arp r → IsNear arp (end_of r end).at
end_near arp r One h = h.end1
end_near arp r Two h = h.end2

-- and so it is near the reference point
pub record IsNearTo (x y : ℤ) (arp : Point) : Type 0 where
  pub x_near : unsigned_abs (x -ℤ arp.x) ≤ 402000
  pub y_near : unsigned_abs (y -ℤ arp.y) ≤ 402000

pub center_near : (arp : Point) (r : Runway) (end : End) → HasNearEnds arp r → IsNearTo (center_x r end) (center_y r end) arp
center_near arp r end h =
    let e = end_near arp r end h in
    let c = center_at r end in
    record { x_near = omega (arith, ints, e.x, c.x_close); y_near = omega (arith, ints, e.y, c.y_close) }

-- ---- the conical surface reaches so far from both centers of a runway
abbrev pub conical_reach : Runway → ℤ
conical_reach r = pos (unsigned_abs (class_of r).radius + CONICAL_RUN)

radius_least : (utility : Bool) (most : ApproachKind) → 50000 ≤ unsigned_abs (radius utility most)
radius_least true most = omega arith
radius_least false Visual = omega arith
radius_least false NonprecisionAbove = omega arith
radius_least false NonprecisionLow = omega arith
radius_least false Precision = omega arith

pub reach_least : (r : Runway) → pos 90000 ≤ℤ conical_reach r
reach_least r = omega (arith, ints, radius_least r.utility (more_precise (effective r.end1) (effective r.end2)))

-- ---- an approach surface that is no precision one reaches no farther
abbrev fits : RunwayClass → EndClass → Bool
fits class end = int_le (pos 40 *ℤ end.length +ℤ pos 20 *ℤ end.outer) (pos 40 *ℤ pos (unsigned_abs class.radius + 40000))

abbrev first_fits : Bool → ApproachKind → ApproachKind → Bool
first_fits utility a b = is_precision a || fits (runway_class utility a b) (runway_class utility a b).end1

abbrev second_fits : Bool → ApproachKind → ApproachKind → Bool
second_fits utility a b = is_precision b || fits (runway_class utility a b) (runway_class utility a b).end2

ends_fit : (utility : Bool) (a b : ApproachKind) → (first_fits utility a b ≡ true) × (second_fits utility a b ≡ true)
ends_fit true Visual Visual = (refl, refl)
ends_fit true Visual NonprecisionAbove = (refl, refl)
ends_fit true Visual NonprecisionLow = (refl, refl)
ends_fit true Visual Precision = (refl, refl)
ends_fit true NonprecisionAbove Visual = (refl, refl)
ends_fit true NonprecisionAbove NonprecisionAbove = (refl, refl)
ends_fit true NonprecisionAbove NonprecisionLow = (refl, refl)
ends_fit true NonprecisionAbove Precision = (refl, refl)
ends_fit true NonprecisionLow Visual = (refl, refl)
ends_fit true NonprecisionLow NonprecisionAbove = (refl, refl)
ends_fit true NonprecisionLow NonprecisionLow = (refl, refl)
ends_fit true NonprecisionLow Precision = (refl, refl)
ends_fit true Precision Visual = (refl, refl)
ends_fit true Precision NonprecisionAbove = (refl, refl)
ends_fit true Precision NonprecisionLow = (refl, refl)
ends_fit true Precision Precision = (refl, refl)
ends_fit false Visual Visual = (refl, refl)
ends_fit false Visual NonprecisionAbove = (refl, refl)
ends_fit false Visual NonprecisionLow = (refl, refl)
ends_fit false Visual Precision = (refl, refl)
ends_fit false NonprecisionAbove Visual = (refl, refl)
ends_fit false NonprecisionAbove NonprecisionAbove = (refl, refl)
ends_fit false NonprecisionAbove NonprecisionLow = (refl, refl)
ends_fit false NonprecisionAbove Precision = (refl, refl)
ends_fit false NonprecisionLow Visual = (refl, refl)
ends_fit false NonprecisionLow NonprecisionAbove = (refl, refl)
ends_fit false NonprecisionLow NonprecisionLow = (refl, refl)
ends_fit false NonprecisionLow Precision = (refl, refl)
ends_fit false Precision Visual = (refl, refl)
ends_fit false Precision NonprecisionAbove = (refl, refl)
ends_fit false Precision NonprecisionLow = (refl, refl)
ends_fit false Precision Precision = (refl, refl)

either : (p t : Bool) → p ≡ false → (p || t) ≡ true → t ≡ true
either p t e h = rw e at h

pub plain_reach : (r : Runway) (end : End) → is_precision (effective (end_of r end)) ≡ false → (pos 40 *ℤ (end_class_of r end).length +ℤ pos 20 *ℤ (end_class_of r end).outer) ≤ℤ (pos 40 *ℤ conical_reach r)
plain_reach r One e = le_in _ _ (either (is_precision (effective r.end1)) _ e (ends_fit r.utility (effective r.end1) (effective r.end2)).0)
plain_reach r Two e = le_in _ _ (either (is_precision (effective r.end2)) _ e (ends_fit r.utility (effective r.end1) (effective r.end2)).1)
