-- The classes of runways, as a table: 77.19(a), (c), (d).
use Rattle.std.specs.Prelude.{ℤ, pos, ◌+ℤ◌, ◌*ℤ◌, ◌≤ℤ◌, ◌<ℤ◌, ℕ, Bool, true, false, nat_lt, if◌then◌else◌, ◌≡◌, ◌⊎◌}
use Rattle.runway_classes.specs.declared.ApproachKind.{ApproachKind}
use Rattle.runway_classes.specs.declared.ApproachKind.TheVariants.{Visual, NonprecisionAbove, NonprecisionLow, Precision}
use Rattle.runway_classes.specs.declared.class.EndClass.{EndClass}
use Rattle.runway_classes.specs.declared.class.RunwayClass.{RunwayClass}
use Rattle.runway_classes.specs.declared.class.TheConstants.{PRECISION_SLOPE, PRECISION_SLOPE2, PRECISION_SPLIT, WIDENING_SCALE}
use Rattle.runway_classes.specs.declared.table.TheConstants.{RADIUS_MOST}

-- the order of precision
abbrev pub rank : ApproachKind → ℕ
rank Visual = 0
rank NonprecisionAbove = 1
rank NonprecisionLow = 2
rank Precision = 3

abbrev pub more_precise : ApproachKind → ApproachKind → ApproachKind
more_precise a b = if nat_lt (rank a) (rank b) then b else a

-- the width of the primary surface, by use (utility or not) and the most precise approach to either end (77.19(c)): 250 feet for
-- utility runways with visual approaches, 500 for those with nonprecision ones; for others 500 with visual approaches and with
-- nonprecision ones of minimums above three-fourths of a mile, and 1,000 with lower minimums and with precision ones
abbrev pub width : Bool → ApproachKind → ℤ
width true Visual = pos 2500
width true NonprecisionAbove = pos 5000
width true NonprecisionLow = pos 5000
width true Precision = pos 5000
width false Visual = pos 5000
width false NonprecisionAbove = pos 5000
width false NonprecisionLow = pos 10000
width false Precision = pos 10000

-- the radius of the arcs of the horizontal surface (77.19(a)): 5,000 feet for utility and visual runways, 10,000 for all others;
-- the arcs at both ends of a runway have the greater of the radii of its two ends
abbrev pub radius : Bool → ApproachKind → ℤ
radius true most = pos 50000
radius false Visual = pos 50000
radius false NonprecisionAbove = RADIUS_MOST
radius false NonprecisionLow = RADIUS_MOST
radius false Precision = RADIUS_MOST

-- an approach surface with one slope
abbrev pub single : ℤ → ℤ → ℤ → ℤ → EndClass
single outer length slope k = record { outer = outer; length = length; slope = slope; split = length; slope2 = slope; k = k }

-- the approach surface of an end (77.19(d)), from the use, the approach to that end, and the most precise approach to either end, which
-- gives the width at the inner end: outer width, length, slope, and the growth of the half width per 40 of distance
abbrev pub end_class : Bool → ApproachKind → ApproachKind → EndClass
end_class true Visual Visual = single (pos 12500) (pos 50000) (pos 20) (pos 4)
end_class true Visual NonprecisionAbove = single (pos 12500) (pos 50000) (pos 20) (pos 3)
end_class true Visual NonprecisionLow = single (pos 12500) (pos 50000) (pos 20) (pos 3)
end_class true Visual Precision = single (pos 12500) (pos 50000) (pos 20) (pos 3)
end_class true NonprecisionAbove most = single (pos 20000) (pos 50000) (pos 20) (pos 6)
end_class true NonprecisionLow most = single (pos 20000) (pos 50000) (pos 20) (pos 6)
end_class true Precision most = single (pos 20000) (pos 50000) (pos 20) (pos 6)
end_class false Visual Visual = single (pos 15000) (pos 50000) (pos 20) (pos 4)
end_class false Visual NonprecisionAbove = single (pos 15000) (pos 50000) (pos 20) (pos 4)
end_class false Visual NonprecisionLow = single (pos 15000) (pos 50000) (pos 20) (pos 2)
end_class false Visual Precision = single (pos 15000) (pos 50000) (pos 20) (pos 2)
end_class false NonprecisionAbove Visual = single (pos 35000) (pos 100000) (pos 34) (pos 6)
end_class false NonprecisionAbove NonprecisionAbove = single (pos 35000) (pos 100000) (pos 34) (pos 6)
end_class false NonprecisionAbove NonprecisionLow = single (pos 35000) (pos 100000) (pos 34) (pos 5)
end_class false NonprecisionAbove Precision = single (pos 35000) (pos 100000) (pos 34) (pos 5)
end_class false NonprecisionLow most = single (pos 40000) (pos 100000) (pos 34) (pos 6)
-- a precision approach rises 50 to 1 for its inner 10,000 feet and 40 to 1 for a further 40,000 feet
end_class false Precision most =
    record { outer = pos 160000; length = pos 500000; slope = PRECISION_SLOPE; split = PRECISION_SPLIT; slope2 = PRECISION_SLOPE2; k = pos 6 }

-- the class of a runway, by its use and the approaches to its two ends
abbrev pub runway_class : Bool → ApproachKind → ApproachKind → RunwayClass
runway_class utility a b =
    let most = more_precise a b in
    record { width = width utility most; radius = radius utility most; end1 = end_class utility a most; end2 = end_class utility b most }

-- a utility runway with a precision approach, which 77.3 excludes
abbrev pub IsPrecisionOnUtility : Bool → ApproachKind → ApproachKind → Type 0
IsPrecisionOnUtility utility a b = (utility ≡ true) × ((a ≡ Precision) ⊎ (b ≡ Precision))

-- the surface widens to its outer width: over its length both half widths grow by k per 40 of distance
abbrev pub IsFlared : ℤ → EndClass → Type 0
IsFlared width end = WIDENING_SCALE *ℤ end.outer ≡ WIDENING_SCALE *ℤ width +ℤ pos 2 *ℤ (end.k *ℤ end.length)

-- bounds on the sizes of each approach surface of the table
pub record HasSizes (end : EndClass) : Type 0 where
  pub outer_least : pos 0 <ℤ end.outer
  pub outer_most : end.outer ≤ℤ pos 160000
  pub length_least : pos 0 <ℤ end.length
  pub length_most : end.length ≤ℤ pos 500000
  pub slope_least : pos 0 <ℤ end.slope
  pub slope_most : end.slope ≤ℤ pos 50
  pub split_least : pos 0 <ℤ end.split
  pub split_most : end.split ≤ℤ pos 100000
  pub slope2_least : pos 0 <ℤ end.slope2
  pub slope2_most : end.slope2 ≤ℤ pos 40
  pub k_least : pos 0 <ℤ end.k
  pub k_most : end.k ≤ℤ pos 6

-- bounds on the width and the radius of a class
pub record IsSized (class : RunwayClass) : Type 0 where
  pub width_least : pos 0 <ℤ class.width
  pub width_most : class.width ≤ℤ pos 10000
  pub radius_least : pos 0 <ℤ class.radius
  pub radius_most : class.radius ≤ℤ RADIUS_MOST
  pub end1 : HasSizes class.end1
  pub end2 : HasSizes class.end2
