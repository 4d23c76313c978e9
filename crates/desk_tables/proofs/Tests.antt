-- What is within the limits of a runway or a heliport passes their tests.
use Rattle.std.proofs.Common.{◌≡◌, ◌≢◌, ◌*◌, ℤ, Bool, true, false, refl}
use Rattle.std.specs.Prelude.{◌&&◌, ◌||◌}
use Rattle.std.proofs.lemmas.Bool.{le-leb, and_from}
use Rattle.runway_classes.specs.declared.ApproachKind.{ApproachKind}
use Rattle.runway_classes.specs.declared.ApproachKind.TheVariants.{Visual, NonprecisionAbove, NonprecisionLow, Precision}
use Rattle.grid_exact.specs.declared.point.Point.{Point}
use Rattle.grid_exact.proofs.TestFacts.{le_out}
use Rattle.airfields.specs.Runways.{effective, length_square, is_within_length, IsElevation, is_elevation, has_elevations, is_precision, is_precision_on_utility}
use Rattle.airfields.specs.Runways.{IsProper, distance_apart, IsNear, is_near, HasNearEnds, has_near_ends}
use Rattle.airfields.specs.Airfields.{axis_square, has_heliport_shape, IsHeldHeliport}
use Rattle.airfields.specs.declared.limits.TheConstants.{ELEVATION_LEAST, ELEVATION_MOST, RUNWAY_LEAST, RUNWAY_MOST, RUNWAY_REACH}
use Rattle.airfields.specs.declared.limits.TheConstants.{HELIPORT_AXIS_LEAST, HELIPORT_AXIS_MOST, HELIPORT_WIDTH_LEAST, HELIPORT_WIDTH_MOST}
use Rattle.airfields.specs.declared.airfield.Heliport.{Heliport}
use Rattle.airfields.specs.declared.runway.Runway.{Runway}

pub elevation_passes : (z : ℤ) → IsElevation z → is_elevation z ≡ true
elevation_passes z h = and_from _ _ (le_out ELEVATION_LEAST z h.least) (le_out z ELEVATION_MOST h.most)

pub shape_passes : (h : Heliport) → IsHeldHeliport h → has_heliport_shape h ≡ true
shape_passes h k =
    and_from _ _
    (and_from _ _ (le-leb (HELIPORT_AXIS_LEAST * HELIPORT_AXIS_LEAST) (axis_square h) k.axis_least)
    (le-leb (axis_square h) (HELIPORT_AXIS_MOST * HELIPORT_AXIS_MOST) k.axis_most))
    (and_from _ _ (le_out HELIPORT_WIDTH_LEAST h.width k.width_least) (le_out h.width HELIPORT_WIDTH_MOST k.width_most))

pub elevations_pass : (r : Runway) → IsProper r → has_elevations r ≡ true
elevations_pass r h = and_from _ _ (elevation_passes r.end1.z h.elevation1) (elevation_passes r.end2.z h.elevation2)

pub length_passes : (r : Runway) → IsProper r → is_within_length r ≡ true
length_passes r h =
    and_from _ _ (le-leb (RUNWAY_LEAST * RUNWAY_LEAST) (length_square r) h.within_length.least)
    (le-leb (length_square r) (RUNWAY_MOST * RUNWAY_MOST) h.within_length.most)

near_passes : (arp at : Point) → IsNear arp at → is_near arp at ≡ true
near_passes arp at h = and_from _ _ (le-leb (distance_apart at.x arp.x) RUNWAY_REACH h.x) (le-leb (distance_apart at.y arp.y) RUNWAY_REACH h.y)

pub near_ends_pass : (arp : Point) (r : Runway) → HasNearEnds arp r → has_near_ends arp r ≡ true
near_ends_pass arp r h = and_from _ _ (near_passes arp r.end1.at h.end1) (near_passes arp r.end2.at h.end2)

no_precision : (k : ApproachKind) → k ≢ Precision → is_precision k ≡ false
no_precision Visual h = refl
no_precision NonprecisionAbove h = refl
no_precision NonprecisionLow h = refl
no_precision Precision h = absurd (h refl)

classed_by : (utility : Bool) (a b : ApproachKind) → (utility ≡ true → a ≢ Precision) → (utility ≡ true → b ≢ Precision)
    → (utility && (is_precision a || is_precision b)) ≡ false
classed_by false a b p q = refl
classed_by true a b p q = rw (no_precision a (p refl), no_precision b (q refl)) refl

-- no end of a utility runway has or is planned for a precision approach
pub class_passes : (r : Runway) → IsProper r → is_precision_on_utility r ≡ false
class_passes r h = classed_by r.utility (effective r.end1) (effective r.end2) h.no_precision1 h.no_precision2
