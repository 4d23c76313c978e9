-- What the tests compute is the excess.
use Rattle.std.proofs.Common.{◌≡◌, ℕ, ◌*◌, ◌^◌, ◌≤◌, ℤ, pos, negsuc, ◌*ℤ◌, ◌<ℤ◌, unsigned_abs, arith, Bool, true, false, ◌&&◌}
use Rattle.std.proofs.lemmas.Int.{ints}
use Rattle.grid_exact.specs.Excess.{IsExcess, root_excess_of, root_surface}
use Rattle.grid_exact.specs.Level.{IsLevel}
use Rattle.grid_exact.specs.Lines.{offset}
use Rattle.grid_exact.specs.declared.cap.Cap.{Cap}
use Rattle.grid_exact.specs.declared.point.Point.{Point}
use Rattle.grid_exact.proofs.ExcessLemmas.{flat_excess-IsExcess, root_excess-IsExcess}
use Rattle.grid_exact.proofs.SlopeLemmas.{above_unreached, low_unreached}
use Rattle.airfields.specs.declared.runway.Runway.{Runway}
use Rattle.airfields.specs.Runways.{IsProper}
use Rattle.runway_lines.specs.declared.end.End.{End}
use Rattle.runway_lines.specs.Centerlines.{elevation}
use Rattle.imaginary_surfaces.specs.Primaries.{PrimaryCovers, primary_covers}
use Rattle.imaginary_surfaces.specs.Approaches.{ApproachCovers, approach_covers, base_at, slope_at, lateral_excess}
use Rattle.imaginary_surfaces.specs.Transitions.{GoesBeyond, Incline, ReachesBesideApproach, ReachesBesidePrimary, TransitionCovers, ends_at, goes_beyond, transition, transition_excess_of}
use Rattle.imaginary_surfaces.specs.Transitions.{incline_beside_approach, incline_beside_primary, reaches_beside_approach, reaches_beside_primary}
use Rattle.imaginary_surfaces.specs.Strips.{primary_of, approach_of, primary_surface, approach_surface, primary_excess, approach_excess}
use Rattle.imaginary_surfaces.specs.Strips.{primary_transition_surface, approach_transition_surface, primary_transition_excess, approach_transition_excess}
use Rattle.imaginary_surfaces.proofs.Sound.{approach_line, approach_sound, base_product, elevation_size, primary_line, primary_wide, rise_sized}
use Rattle.imaginary_surfaces.proofs.SurfaceFacts.{approach_in, approach_out, primary_in, primary_out}
use Rattle.imaginary_surfaces.proofs.TransitionFacts.{TransitionTests, approach_tests, from_side_positive, left_positive, outside_positive, primary_tests, shift_size, transition_in, transition_out}

-- of a slope that is nowhere below the least level
root_law : (C : Type 0) (t : Bool) (a k c : ℤ) (n : ℕ) (top : ℤ) → IsLevel top → pos 0 <ℤ k → unsigned_abs c ≤ unsigned_abs k * 2 ^ 25 → (C → pos 0 <ℤ a) → (C → t ≡ true) → (t ≡ true → C) →
    IsExcess (root_surface C a k c n) top (root_excess_of t a k c n top)
root_law C t a k c n top l rises size positive out in_ =
    root_excess-IsExcess C t a k c n top l out in_
    (λ p b z h. omega (arith, ints, above_unreached a k c n (negsuc (2 ^ 25)) z rises (low_unreached a k c n (positive p) rises size) h))

pub primary_excess-is : (r : Runway) (x : Point) (top : ℤ) → IsProper r → IsLevel top → IsExcess (primary_surface r x) top (primary_excess r x top)
unfolding primary_excess
primary_excess-is r x top p l =
    let s = primary_of r in
    let o = offset s.line x in
    flat_excess-IsExcess (PrimaryCovers s o) (primary_covers s o) (elevation s.profile x) top l (omega (arith, ints, elevation_size r x p)) (primary_out s o) (primary_in s o)

pub approach_excess-is : (r : Runway) (end : End) (x : Point) (top : ℤ) → IsProper r → IsLevel top → IsExcess (approach_surface r end x) top (approach_excess r end x top)
unfolding approach_excess
approach_excess-is r end x top p l =
    let a = approach_of r end in
    let o = offset a.line x in
    let rise = rise_sized a o (approach_sound r end p) in
    root_law (ApproachCovers a o) (approach_covers a o) o.along (slope_at a o) (slope_at a o *ℤ base_at a o) o.square top l rise.rises (base_product (slope_at a o) (base_at a o) rise)
    (λ (h : ApproachCovers a o). h.ahead) (approach_out a o) (approach_in a o)

transition_law : (C : Type 0) (t : Bool) (i : Incline) (B : Type 0) (u : Bool) (cap : Cap) (top : ℤ) → TransitionTests C t B u → IsLevel top → pos 0 <ℤ i.factor →
    unsigned_abs i.shift ≤ unsigned_abs i.factor * 2 ^ 25 → (C → pos 0 <ℤ i.left) → IsExcess (transition C i B cap) top (transition_excess_of t i u cap top)
transition_law C t i B u cap top tests l rises size positive =
    root_law (TransitionCovers C i B cap) (t && ends_at i u cap) i.left i.factor i.shift i.square top l rises size
    (λ (h : TransitionCovers C i B cap). positive h.reached) (transition_out C t i B u cap tests) (transition_in C t i B u cap tests)

pub primary_transition_excess-is : (r : Runway) (x : Point) (cap : Cap) (top : ℤ) → IsProper r → IsLevel top → IsExcess (primary_transition_surface r x cap) top (primary_transition_excess r x cap top)
unfolding primary_transition_excess
primary_transition_excess-is r x cap top p l =
    let s = primary_of r in
    let o = offset s.line x in
    let wide = primary_wide r in
    transition_law (ReachesBesidePrimary s o) (reaches_beside_primary s o) (incline_beside_primary s o x) ⊥ false cap top (primary_tests s o) l
    (omega (arith, ints)) (omega (arith, ints, elevation_size r x p, wide.least, wide.most))
    (λ (h : ReachesBesidePrimary s o). from_side_positive (pos (2 * o.aside)) s.width o.square wide.least (primary_line r p).some h.from_side)

pub approach_transition_excess-is : (r : Runway) (end : End) (x : Point) (cap : Cap) (top : ℤ) → IsProper r → IsLevel top →
    IsExcess (approach_transition_surface r end x cap) top (approach_transition_excess r end x cap top)
unfolding approach_transition_excess
approach_transition_excess-is r end x cap top p l =
    let a = approach_of r end in
    let o = offset a.line x in
    let s = approach_sound r end p in
    let rise = rise_sized a o s in
    transition_law (ReachesBesideApproach a o) (reaches_beside_approach a o) (incline_beside_approach a o) (GoesBeyond a o) (goes_beyond a o) cap top (approach_tests a o) l
    (omega (arith, ints, rise.rises)) (shift_size (slope_at a o) (base_at a o) a.width rise s.wide)
    (λ (h : ReachesBesideApproach a o). left_positive (slope_at a o) (lateral_excess a o) o.along rise.rises (outside_positive a o s.wide (approach_line r end p).some h) h.ahead)

pub ruleset laws = (primary_excess-is, approach_excess-is, primary_transition_excess-is, approach_transition_excess-is)
