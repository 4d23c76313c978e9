-- No excess is more than the way between the least and the greatest level.
use Rattle.std.proofs.Common.{arith, ℕ, ℤ, pos, ◌-ℤ◌, ◌<◌, ◌^◌, Bool, true, false, ◌&&◌, Option, Some, None, if◌then◌else◌}
use Rattle.std.specs.Prelude.{◌*ℤ◌, IfSome, int_le, int_lt}
use Rattle.grid_exact.specs.Excess.{excess_of, flat_excess_of, root_excess_of, greatest_up_to, most_excess, is_at_most_root, is_below_root}
use Rattle.grid_exact.specs.Lines.{offset}
use Rattle.grid_exact.specs.declared.cap.Cap.{Cap}
use Rattle.grid_exact.specs.declared.point.Point.{Point}
use Rattle.grid_exact.proofs.ExcessLemmas.{greatest_up_to-within}
use Rattle.airfields.specs.Sites.{Site}
use Rattle.airfields.specs.declared.airfield.Airport.{Airport}
use Rattle.airfields.specs.declared.runway.Runway.{Runway}
use Rattle.height_rules.specs.Heights.{notice_top, standards_top}
use Rattle.height_rules.specs.AboveGround.{notice_limit, notice_excess, height_limit, height_excess}
use Rattle.height_rules.specs.NearAirport.{base_of, is_near, is_at_limit, is_above_limit, near_excess, square_distance}
use Rattle.horizontal_hull.specs.Arcs.{Dome}
use Rattle.horizontal_hull.specs.Within.{horizontal_excess, is_at_conical, is_above_conical, conical_covers, conical_excess}
use Rattle.runway_lines.specs.declared.end.End.{End}
use Rattle.runway_lines.specs.Centerlines.{elevation}
use Rattle.imaginary_surfaces.specs.Primaries.{primary_covers}
use Rattle.imaginary_surfaces.specs.Approaches.{approach_covers, slope_at, base_at}
use Rattle.imaginary_surfaces.specs.Transitions.{Incline, ends_at, transition_excess_of, reaches_beside_primary, incline_beside_primary}
use Rattle.imaginary_surfaces.specs.Transitions.{reaches_beside_approach, incline_beside_approach, goes_beyond}
use Rattle.imaginary_surfaces.specs.Strips.{primary_of, approach_of, primary_excess, approach_excess, primary_transition_excess, approach_transition_excess}

-- an excess that fits the type of an entry's, if there is one
abbrev pub IsSmall : Option ℕ → Type 0
IsSmall x = IfSome x (λ e. e < 2 ^ 32)

-- ---- the search for an excess ends there

most_small : most_excess < 2 ^ 32
unfolding most_excess
most_small = omega arith

some_small : (found : Bool) (e : ℕ) → e < 2 ^ 32 → IsSmall (if found then Some e else None)
some_small true e h = h
some_small false e h = tt

pub found_small : (covers : Bool) (is_above is_at : ℤ → Bool) (top : ℤ) → IsSmall (excess_of covers is_above is_at most_excess top)
found_small covers is_above is_at top =
    let p : ℕ → Bool = λ e. is_at (top -ℤ pos e) in
    some_small (covers && is_above top) (greatest_up_to p most_excess) (omega (arith, greatest_up_to-within p most_excess, most_small))

pub flat_small : (covers : Bool) (height top : ℤ) → IsSmall (flat_excess_of covers height top)
flat_small covers height top = found_small covers (λ z. int_lt height z) (λ z. int_le height z) top

pub root_small : (covers : Bool) (a k c : ℤ) (n : ℕ) (top : ℤ) → IsSmall (root_excess_of covers a k c n top)
root_small covers a k c n top = found_small covers (λ z. is_below_root a (k *ℤ z -ℤ c) n) (λ z. is_at_most_root a (k *ℤ z -ℤ c) n) top

-- ---- heights above the ground and near an airport

pub notice_small : (s : Site) → IsSmall (notice_excess s)
notice_small s = flat_small true (notice_limit s) (notice_top s)

pub height_small : (s : Site) → IsSmall (height_excess s)
height_small s = flat_small true (height_limit s) (standards_top s)

pub near_small : (a : Airport) (s : Site) → IsSmall (near_excess a s)
unfolding near_excess
near_small a s =
    found_small (is_near a s) (is_above_limit (square_distance a s) (base_of a s)) (is_at_limit (square_distance a s) (base_of a s)) (standards_top s)

-- ---- the horizontal and the conical surface

pub horizontal_small : (d : Dome) (x : Point) (top : ℤ) → IsSmall (horizontal_excess d x top)
unfolding horizontal_excess
horizontal_small d x top = flat_small _ d.level top

pub conical_small : (d : Dome) (x : Point) (top : ℤ) → IsSmall (conical_excess d x top)
unfolding conical_excess
conical_small d x top = found_small (conical_covers d x) (is_above_conical d x) (is_at_conical d x) top

-- ---- the surfaces of a runway

pub primary_small : (r : Runway) (x : Point) (top : ℤ) → IsSmall (primary_excess r x top)
unfolding primary_excess
primary_small r x top =
    let p = primary_of r in
    flat_small (primary_covers p (offset p.line x)) (elevation p.profile x) top

pub approach_small : (r : Runway) (end : End) (x : Point) (top : ℤ) → IsSmall (approach_excess r end x top)
unfolding approach_excess
approach_small r end x top =
    let a = approach_of r end in
    let o = offset a.line x in
    root_small (approach_covers a o) o.along (slope_at a o) (slope_at a o *ℤ base_at a o) o.square top

incline_small : (reaches : Bool) (i : Incline) (beyond : Bool) (cap : Cap) (top : ℤ) → IsSmall (transition_excess_of reaches i beyond cap top)
incline_small reaches i beyond cap top = root_small (reaches && ends_at i beyond cap) i.left i.factor i.shift i.square top

pub primary_transition_small : (r : Runway) (x : Point) (cap : Cap) (top : ℤ) → IsSmall (primary_transition_excess r x cap top)
unfolding primary_transition_excess
primary_transition_small r x cap top =
    let p = primary_of r in
    let o = offset p.line x in
    incline_small (reaches_beside_primary p o) (incline_beside_primary p o x) false cap top

pub approach_transition_small : (r : Runway) (end : End) (x : Point) (cap : Cap) (top : ℤ) → IsSmall (approach_transition_excess r end x cap top)
unfolding approach_transition_excess
approach_transition_small r end x cap top =
    let a = approach_of r end in
    let o = offset a.line x in
    incline_small (reaches_beside_approach a o) (incline_beside_approach a o) (goes_beyond a o) cap top
