-- What the tests of the limits of a runway and of a heliport tell.
use Rattle.std.proofs.Common.{◌≡◌, ◌≢◌, ℕ, ℤ, List, Bool, true, false, refl, arith}
use Rattle.std.specs.Prelude.{◌&&◌, ◌||◌}
use Rattle.std.specs.List.{All, list_all}
use Rattle.std.proofs.lemmas.Bool.{and_parts, or_parts}
use Rattle.std.proofs.lemmas.Bool.Decides.{nat_tests}
use Rattle.std.proofs.lemmas.Int.{ints}
use Rattle.std.proofs.lemmas.List.Elements.{All-weaker}
use Rattle.std.proofs.lemmas.List.Sums.{AllPass-from_list_all}
use Rattle.runway_classes.specs.declared.ApproachKind.{ApproachKind}
use Rattle.runway_classes.specs.declared.ApproachKind.TheVariants.{Precision}
use Rattle.grid_exact.specs.declared.point.Point.{Point}
use Rattle.airfields.specs.Runways.{length_square, IsWithinLength, is_within_length, IsElevation, is_elevation, has_elevations, effective, is_precision, is_precision_on_utility, IsProper, distance_apart, IsNear, is_near, HasNearEnds, has_near_ends}
use Rattle.airfields.specs.Airfields.{axis_square, is_axis, is_width, has_heliport_shape, IsHeldHeliport}
use Rattle.airfields.specs.declared.airfield.Heliport.{Heliport}
use Rattle.airfields.specs.declared.runway.Runway.{Runway}

within_length_told : (r : Runway) → is_within_length r ≡ true → IsWithinLength r
within_length_told r e = let n : ℕ = length_square r in record { least = grind (arith, nat_tests); most = grind (arith, nat_tests) }

pub elevation_told : (z : ℤ) → is_elevation z ≡ true → IsElevation z
elevation_told z e = record { least = grind (arith, ints); most = grind (arith, ints) }

pub heliport_told : (h : Heliport) → is_elevation h.elevation ≡ true → has_heliport_shape h ≡ true → IsHeldHeliport h
heliport_told h e s =
    let p : (is_axis h ≡ true) × (is_width h.width ≡ true) = and_parts (is_axis h) (is_width h.width) s in
    let axis : is_axis h ≡ true = p.0 in
    let wide : is_width h.width ≡ true = p.1 in
    let n : ℕ = axis_square h in
    let w : ℤ = h.width in
    record {
      elevation = elevation_told h.elevation e;
      axis_least = grind (arith, nat_tests);
      axis_most = grind (arith, nat_tests);
      width_least = grind (arith, ints);
      width_most = grind (arith, ints);
    }

not_precision : (k : ApproachKind) → is_precision k ≡ false → k ≢ Precision
not_precision k e p = let t : is_precision k ≡ true = rw p refl in cc

no_precision_told : (utility : Bool) (a b : ApproachKind) → (utility && (is_precision a || is_precision b)) ≡ false → utility ≡ true → (a ≢ Precision) × (b ≢ Precision)
no_precision_told true a b e u =
    let p : (is_precision a ≡ false) × (is_precision b ≡ false) = or_parts (is_precision a) (is_precision b) e in
    (not_precision a p.0, not_precision b p.1)
no_precision_told false a b e u = absurd cc

pub proper_told : (r : Runway) → is_precision_on_utility r ≡ false → has_elevations r ≡ true → is_within_length r ≡ true → IsProper r
proper_told r p e l =
    let z : (is_elevation r.end1.z ≡ true) × (is_elevation r.end2.z ≡ true) = and_parts (is_elevation r.end1.z) (is_elevation r.end2.z) e in
    record {
      within_length = within_length_told r l;
      elevation1 = elevation_told r.end1.z z.0;
      elevation2 = elevation_told r.end2.z z.1;
      no_precision1 = λ u. (no_precision_told r.utility (effective r.end1) (effective r.end2) p u).0;
      no_precision2 = λ u. (no_precision_told r.utility (effective r.end1) (effective r.end2) p u).1;
    }

near_told : (arp at : Point) → is_near arp at ≡ true → IsNear arp at
near_told arp at e =
    let m : ℕ = distance_apart at.x arp.x in
    let n : ℕ = distance_apart at.y arp.y in
    record { x = grind (arith, nat_tests); y = grind (arith, nat_tests) }

pub near_ends_told : (arp : Point) (r : Runway) → has_near_ends arp r ≡ true → HasNearEnds arp r
near_ends_told arp r e =
    let p : (is_near arp r.end1.at ≡ true) × (is_near arp r.end2.at ≡ true) = and_parts (is_near arp r.end1.at) (is_near arp r.end2.at) e in
    record { end1 = near_told arp r.end1.at p.0; end2 = near_told arp r.end2.at p.1 }

pub all_near_told : (arp : Point) (rs : List Runway) → list_all (has_near_ends arp) rs ≡ true → All (HasNearEnds arp) rs
all_near_told arp rs e = All-weaker (λ r. has_near_ends arp r ≡ true) (HasNearEnds arp) (near_ends_told arp) rs (AllPass-from_list_all (has_near_ends arp) rs e)
