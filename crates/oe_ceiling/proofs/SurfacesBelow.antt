-- The surfaces of an airport: a top that exceeds none exceeds none from lower down.
use Rattle.std.proofs.Common.{ℤ, pos, ◌*◌, ◌*ℤ◌, ◌-ℤ◌, ◌≤ℤ◌, ◌<ℤ◌, ◌≤◌, unsigned_abs, arith, Bool, true, false, ◌&&◌, cond, int_le}
use Rattle.std.proofs.lemmas.Int.{ints}
use Rattle.grid_exact.specs.Excess.{most_excess}
use Rattle.grid_exact.specs.Lines.{Offset, offset}
use Rattle.grid_exact.specs.declared.cap.Cap.{Cap}
use Rattle.grid_exact.specs.declared.point.Point.{Point}
use Rattle.runway_classes.specs.Class.{HasSizes, more_precise}
use Rattle.runway_classes.proofs.Classes.{end_sized}
use Rattle.runway_lines.specs.declared.end.End.{End}
use Rattle.runway_lines.specs.declared.end.End.TheVariants.{One, Two}
use Rattle.runway_lines.specs.Centerlines.{elevation}
use Rattle.runway_lines.specs.Ends.{end_class_of}
use Rattle.airfields.specs.declared.runway.Runway.{Runway}
use Rattle.airfields.specs.Runways.{effective}
use Rattle.horizontal_hull.specs.Arcs.{Dome}
use Rattle.horizontal_hull.specs.declared.sizes.TheConstants.{CONICAL_SLOPE}
use Rattle.horizontal_hull.specs.Within.{AboveConical, conical_excess, horizontal, horizontal_excess, run_to}
use Rattle.horizontal_hull.proofs.Conical.{conical_tests}
use Rattle.horizontal_hull.proofs.Grows.{Within_grows}
use Rattle.horizontal_hull.proofs.Tests.{Within-test}
use Rattle.imaginary_surfaces.specs.Primaries.{primary_covers}
use Rattle.imaginary_surfaces.specs.Approaches.{approach_covers, base_at, is_past_split, slope_at}
use Rattle.imaginary_surfaces.specs.Transitions.{ends_at, goes_beyond, incline_beside_approach, incline_beside_primary, reaches_beside_approach, reaches_beside_primary}
use Rattle.imaginary_surfaces.specs.Strips.{primary_of, approach_of, primary_excess, approach_excess, primary_transition_excess, approach_transition_excess}
use Rattle.grid_exact.specs.Excess.{is_at_most_root, is_below_root}
use Rattle.oe_ceiling.proofs.Lowering.{NoneBelow, flat_below, flat_rises, none_below, root_rises, tests_below}
use Rattle.std.specs.Prelude.{int_lt}

-- ---- the horizontal and the conical surface
pub horizontal_below : (d : Dome) (x : Point) → NoneBelow (horizontal_excess d x)
unfolding horizontal_excess
horizontal_below d x = flat_below (horizontal d x).Covers d.level (Within-test _ d.arcs x 0)

run_le : (level y z : ℤ) → level ≤ℤ y → y ≤ℤ z → CONICAL_SLOPE * unsigned_abs (y -ℤ level) ≤ CONICAL_SLOPE * unsigned_abs (z -ℤ level)
run_le level y z h k = omega (arith, ints)

conical_rises : (d : Dome) (x : Point) (y z : ℤ) → y ≤ℤ z → AboveConical d x y → AboveConical d x z
conical_rises d x y z l a = record {
  not_below = omega (arith, ints, l, a.not_below);
  strictly = Within_grows _ d.arcs x (run_to d y) (run_to d z) (run_le d.level y z a.not_below l) a.strictly;
}

pub conical_below : (d : Dome) (x : Point) → NoneBelow (conical_excess d x)
unfolding conical_excess
conical_below d x = tests_below most_excess (conical_tests d x) (conical_rises d x)

-- ---- the surfaces of a runway
pub primary_below : (r : Runway) (x : Point) → NoneBelow (primary_excess r x)
unfolding primary_excess
primary_below r x =
    let p = primary_of r in
    none_below (primary_covers p (offset p.line x)) (λ z. int_lt (elevation p.profile x) z) (λ z. int_le (elevation p.profile x) z) most_excess (flat_rises (elevation p.profile x))

sized : (r : Runway) (end : End) → HasSizes (end_class_of r end)
sized r One = end_sized r.utility (effective r.end1) (more_precise (effective r.end1) (effective r.end2))
sized r Two = end_sized r.utility (effective r.end2) (more_precise (effective r.end1) (effective r.end2))

slopes : (past : Bool) (a b : ℤ) → pos 0 <ℤ a → pos 0 <ℤ b → pos 0 <ℤ cond past a b
slopes true a b h k = h
slopes false a b h k = k

slope_rises : (r : Runway) (end : End) (o : Offset) → pos 0 <ℤ slope_at (approach_of r end) o
unfolding approach_of
slope_rises r end o =
    let s = sized r end in
    slopes (is_past_split (approach_of r end) o) (end_class_of r end).slope2 (end_class_of r end).slope s.slope2_least s.slope_least

pub approach_below : (r : Runway) (end : End) (x : Point) → NoneBelow (approach_excess r end x)
unfolding approach_excess
approach_below r end x =
    let a = approach_of r end in
    let o = offset a.line x in
    let k = slope_at a o in
    let c = slope_at a o *ℤ base_at a o in
    none_below (approach_covers a o) (λ z. is_below_root o.along (k *ℤ z -ℤ c) o.square) (λ z. is_at_most_root o.along (k *ℤ z -ℤ c) o.square) most_excess (root_rises o.along k c o.square (slope_rises r end o))

pub primary_transition_below : (r : Runway) (x : Point) (cap : Cap) → NoneBelow (primary_transition_excess r x cap)
unfolding primary_transition_excess
primary_transition_below r x cap =
    let p = primary_of r in
    let o = offset p.line x in
    let i = incline_beside_primary p o x in
    none_below (reaches_beside_primary p o && ends_at i false cap) (λ z. is_below_root i.left (i.factor *ℤ z -ℤ i.shift) i.square) (λ z. is_at_most_root i.left (i.factor *ℤ z -ℤ i.shift) i.square) most_excess
    (root_rises i.left i.factor i.shift i.square (omega (arith, ints)))

pub approach_transition_below : (r : Runway) (end : End) (x : Point) (cap : Cap) → NoneBelow (approach_transition_excess r end x cap)
unfolding approach_transition_excess
approach_transition_below r end x cap =
    let a = approach_of r end in
    let o = offset a.line x in
    let i = incline_beside_approach a o in
    none_below (reaches_beside_approach a o && ends_at i (goes_beyond a o) cap) (λ z. is_below_root i.left (i.factor *ℤ z -ℤ i.shift) i.square) (λ z. is_at_most_root i.left (i.factor *ℤ z -ℤ i.shift) i.square) most_excess
    (root_rises i.left i.factor i.shift i.square (let s : pos 0 <ℤ slope_at a o = slope_rises r end o in omega (arith, ints, s)))
