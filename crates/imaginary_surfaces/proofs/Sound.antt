-- Sizes of what a runway that keeps its limits has.
use Rattle.std.proofs.Common.{inl, inr, ℕ, ◌*◌, ◌^◌, ◌<◌, ◌≤◌, ℤ, pos, ◌-ℤ◌, ◌*ℤ◌, ◌≤ℤ◌, unsigned_abs, arith, Bool, true, false, int_lt}
use Rattle.std.proofs.Math.Nat.{mul-le-mul_left}
use Rattle.std.proofs.lemmas.Bool.{cases_Bool}
use Rattle.std.proofs.lemmas.Int.{ints, unsigned_abs-mul}
use Rattle.grid_exact.specs.Lines.{IsSquare, Offset, offset, square}
use Rattle.grid_exact.specs.declared.point.Point.{Point}
use Rattle.runway_classes.specs.declared.ApproachKind.{ApproachKind}
use Rattle.runway_classes.specs.declared.ApproachKind.TheVariants.{Visual, NonprecisionAbove, NonprecisionLow, Precision}
use Rattle.runway_classes.specs.Class.{HasSizes, IsFlared, end_class, more_precise, width}
use Rattle.runway_classes.proofs.Classes.{flared}
use Rattle.airfields.specs.declared.runway.Runway.{Runway}
use Rattle.airfields.specs.Runways.{IsProper, effective}
use Rattle.runway_lines.specs.declared.end.End.{End}
use Rattle.runway_lines.specs.declared.end.End.TheVariants.{One, Two}
use Rattle.runway_lines.specs.Centerlines.{clamped_length, elevation}
use Rattle.runway_lines.specs.Ends.{class_of, end_class_of, end_of}
use Rattle.runway_lines.specs.Profiles.{profile_of}
use Rattle.runway_lines.proofs.AxisFacts.{axis_square_back, outward_square, runway_square}
use Rattle.runway_lines.proofs.ElevationFacts.{climb_size}
use Rattle.imaginary_surfaces.specs.Primaries.{IsWidth}
use Rattle.imaginary_surfaces.specs.Approaches.{Approach, IsApproach, IsRise, base_at, is_past_split, slope_at}
use Rattle.imaginary_surfaces.specs.Strips.{approach_of, primary_of}

-- ---- the class
class_sized : (u : Bool) (k m : ApproachKind) → HasSizes (end_class u k m)
class_sized true Visual Visual = omega (arith, ints)
class_sized true Visual NonprecisionAbove = omega (arith, ints)
class_sized true Visual NonprecisionLow = omega (arith, ints)
class_sized true Visual Precision = omega (arith, ints)
class_sized true NonprecisionAbove m = omega (arith, ints)
class_sized true NonprecisionLow m = omega (arith, ints)
class_sized true Precision m = omega (arith, ints)
class_sized false Visual Visual = omega (arith, ints)
class_sized false Visual NonprecisionAbove = omega (arith, ints)
class_sized false Visual NonprecisionLow = omega (arith, ints)
class_sized false Visual Precision = omega (arith, ints)
class_sized false NonprecisionAbove Visual = omega (arith, ints)
class_sized false NonprecisionAbove NonprecisionAbove = omega (arith, ints)
class_sized false NonprecisionAbove NonprecisionLow = omega (arith, ints)
class_sized false NonprecisionAbove Precision = omega (arith, ints)
class_sized false NonprecisionLow m = omega (arith, ints)
class_sized false Precision m = omega (arith, ints)

width_sized : (u : Bool) (m : ApproachKind) → IsWidth (width u m)
width_sized true Visual = omega (arith, ints)
width_sized true NonprecisionAbove = omega (arith, ints)
width_sized true NonprecisionLow = omega (arith, ints)
width_sized true Precision = omega (arith, ints)
width_sized false Visual = omega (arith, ints)
width_sized false NonprecisionAbove = omega (arith, ints)
width_sized false NonprecisionLow = omega (arith, ints)
width_sized false Precision = omega (arith, ints)

end_sized : (r : Runway) (end : End) → HasSizes (end_class_of r end)
end_sized r One = class_sized r.utility (effective r.end1) (more_precise (effective r.end1) (effective r.end2))
end_sized r Two = class_sized r.utility (effective r.end2) (more_precise (effective r.end1) (effective r.end2))

pub end_flared : (r : Runway) (end : End) → IsFlared (class_of r).width (end_class_of r end)
end_flared r One = (flared r.utility (effective r.end1) (effective r.end2)).0
end_flared r Two = (flared r.utility (effective r.end1) (effective r.end2)).1

pub end_small : (r : Runway) (end : End) → IsProper r → unsigned_abs (end_of r end).z ≤ 2 ^ 18
end_small r One p = omega (arith, ints, p.elevation1)
end_small r Two p = omega (arith, ints, p.elevation2)

-- ---- the approach surface of an end
pub approach_sound : (r : Runway) (end : End) → IsProper r → IsApproach (approach_of r end).width (approach_of r end).class (approach_of r end).z
unfolding approach_of
approach_sound r end p = record {
  wide = width_sized r.utility (more_precise (effective r.end1) (effective r.end2));
  sized = end_sized r end;
  flared = end_flared r end;
  z_size = end_small r end p;
}

pub approach_line : (r : Runway) (end : End) → IsProper r → IsSquare (square (approach_of r end).line)
unfolding approach_of
approach_line r end p = outward_square r end p.within_length

-- the slope over a point, and its base
pub rise_sized : (a : Approach) (o : Offset) → IsApproach a.width a.class a.z → IsRise (slope_at a o) (base_at a o)
rise_sized a o s =
    elim (cases_Bool (is_past_split a o)) [
      | inl t ↦ rw t (record { rises = s.sized.slope2_least; slope_most = omega (arith, ints, s.sized.slope2_most); base_size = omega (arith, ints, s.z_size) })
      | inr f ↦ rw f (record { rises = s.sized.slope_least; slope_most = s.sized.slope_most; base_size = omega (arith, s.z_size) })
    ]

pub base_product : (slope base : ℤ) → IsRise slope base → unsigned_abs (slope *ℤ base) ≤ unsigned_abs slope * 2 ^ 25
base_product slope base rise =
    let small : unsigned_abs base ≤ 2 ^ 25 = omega (arith, rise.base_size) in
    rw unsigned_abs-mul (mul-le-mul_left (unsigned_abs slope) small)

-- ---- the primary surface
pub primary_wide : (r : Runway) → IsWidth (primary_of r).width
unfolding primary_of
primary_wide r = width_sized r.utility (more_precise (effective r.end1) (effective r.end2))

pub primary_line : (r : Runway) → IsProper r → IsSquare (square (primary_of r).line)
unfolding primary_of
primary_line r p = axis_square_back r p.within_length

clamped_within : (m : ℤ) (n : ℕ) → (pos 0 ≤ℤ clamped_length m n) × (clamped_length m n ≤ℤ pos n)
clamped_within m n =
    elim (cases_Bool (int_lt m (pos 0))) [
      | inl a ↦ rw a (omega (arith, ints), omega (arith, ints))
      | inr a ↦ elim (cases_Bool (int_lt (pos n) m)) [
        | inl b ↦ rw (a, b) (omega (arith, ints), omega (arith, ints))
        | inr b ↦ rw (a, b) (omega (arith, ints, a), omega (arith, ints, b))
      ]
    ]

profile_some : (r : Runway) → IsProper r → 0 < square (profile_of r).line
unfolding profile_of
profile_some r p = (runway_square r p.within_length).some

profile_size : (r : Runway) (x : Point) → IsProper r → unsigned_abs (elevation (profile_of r) x) ≤ 2 ^ 19
unfolding profile_of
profile_size r x p =
    let o = offset (profile_of r).line x in
    let rise = (profile_of r).rise in
    let t = clamped_within o.along o.square in
    let c = climb_size rise (clamped_length o.along o.square) o.square (runway_square r p.within_length).some t.0 t.1 in
    omega (arith, ints, c, p.elevation1, p.elevation2)

-- nowhere lower than the first end less what the second one is higher or lower
profile_least : (r : Runway) (x : Point) → IsProper r → ((profile_of r).z -ℤ pos (unsigned_abs (profile_of r).rise)) ≤ℤ elevation (profile_of r) x
profile_least r x p =
    let o = offset (profile_of r).line x in
    let rise = (profile_of r).rise in
    let t = clamped_within o.along o.square in
    let c = climb_size rise (clamped_length o.along o.square) o.square (profile_some r p) t.0 t.1 in
    omega (arith, ints, c)

pub elevation_least : (r : Runway) (x : Point) → IsProper r → ((primary_of r).profile.z -ℤ pos (unsigned_abs (primary_of r).profile.rise)) ≤ℤ elevation (primary_of r).profile x
unfolding primary_of
elevation_least r x p = profile_least r x p

pub elevation_size : (r : Runway) (x : Point) → IsProper r → unsigned_abs (elevation (primary_of r).profile x) ≤ 2 ^ 19
unfolding primary_of
elevation_size r x p = profile_size r x p
