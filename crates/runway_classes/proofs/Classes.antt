-- What holds of each class of the table.
use Rattle.std.proofs.Common.{Bool, true, false, ◌&&◌, ◌≡◌, refl, ℤ, pos, ◌≤ℤ◌, ◌<ℤ◌, int_le, int_lt, arith}
use Rattle.std.proofs.lemmas.Int.{ints}
use Rattle.runway_classes.specs.Class.{IsFlared, HasSizes, IsSized, runway_class, end_class, more_precise, width, radius}
use Rattle.runway_classes.specs.declared.class.EndClass.{EndClass}
use Rattle.runway_classes.specs.declared.ApproachKind.{ApproachKind}
use Rattle.runway_classes.specs.declared.ApproachKind.TheVariants.{Visual, NonprecisionAbove, NonprecisionLow, Precision}
use Rattle.runway_classes.specs.declared.table.TheConstants.{RADIUS_MOST}

-- each approach surface has its outer width where it ends
pub flared : (utility : Bool) (a b : ApproachKind) →
    IsFlared (runway_class utility a b).width (runway_class utility a b).end1 × IsFlared (runway_class utility a b).width (runway_class utility a b).end2
flared true Visual Visual = (refl, refl)
flared true Visual NonprecisionAbove = (refl, refl)
flared true Visual NonprecisionLow = (refl, refl)
flared true Visual Precision = (refl, refl)
flared true NonprecisionAbove Visual = (refl, refl)
flared true NonprecisionAbove NonprecisionAbove = (refl, refl)
flared true NonprecisionAbove NonprecisionLow = (refl, refl)
flared true NonprecisionAbove Precision = (refl, refl)
flared true NonprecisionLow Visual = (refl, refl)
flared true NonprecisionLow NonprecisionAbove = (refl, refl)
flared true NonprecisionLow NonprecisionLow = (refl, refl)
flared true NonprecisionLow Precision = (refl, refl)
flared true Precision Visual = (refl, refl)
flared true Precision NonprecisionAbove = (refl, refl)
flared true Precision NonprecisionLow = (refl, refl)
flared true Precision Precision = (refl, refl)
flared false Visual Visual = (refl, refl)
flared false Visual NonprecisionAbove = (refl, refl)
flared false Visual NonprecisionLow = (refl, refl)
flared false Visual Precision = (refl, refl)
flared false NonprecisionAbove Visual = (refl, refl)
flared false NonprecisionAbove NonprecisionAbove = (refl, refl)
flared false NonprecisionAbove NonprecisionLow = (refl, refl)
flared false NonprecisionAbove Precision = (refl, refl)
flared false NonprecisionLow Visual = (refl, refl)
flared false NonprecisionLow NonprecisionAbove = (refl, refl)
flared false NonprecisionLow NonprecisionLow = (refl, refl)
flared false NonprecisionLow Precision = (refl, refl)
flared false Precision Visual = (refl, refl)
flared false Precision NonprecisionAbove = (refl, refl)
flared false Precision NonprecisionLow = (refl, refl)
flared false Precision Precision = (refl, refl)

-- ---- sizes
abbrev in_range : ℤ → ℤ → Bool
in_range most z = int_lt (pos 0) z && int_le z most

above_zero : (most z : ℤ) → in_range most z ≡ true → pos 0 <ℤ z
above_zero most z h = grind (arith, ints)

at_most : (most z : ℤ) → in_range most z ≡ true → z ≤ℤ most
at_most most z h = grind (arith, ints)

end_by : (e : EndClass) → in_range (pos 160000) e.outer ≡ true → in_range (pos 500000) e.length ≡ true → in_range (pos 50) e.slope ≡ true →
    in_range (pos 100000) e.split ≡ true → in_range (pos 40) e.slope2 ≡ true → in_range (pos 6) e.k ≡ true → HasSizes e
end_by e o l s p t k = record {
  outer_least = above_zero (pos 160000) e.outer o;
  outer_most = at_most (pos 160000) e.outer o;
  length_least = above_zero (pos 500000) e.length l;
  length_most = at_most (pos 500000) e.length l;
  slope_least = above_zero (pos 50) e.slope s;
  slope_most = at_most (pos 50) e.slope s;
  split_least = above_zero (pos 100000) e.split p;
  split_most = at_most (pos 100000) e.split p;
  slope2_least = above_zero (pos 40) e.slope2 t;
  slope2_most = at_most (pos 40) e.slope2 t;
  k_least = above_zero (pos 6) e.k k;
  k_most = at_most (pos 6) e.k k;
}

pub end_sized : (utility : Bool) (kind most : ApproachKind) → HasSizes (end_class utility kind most)
end_sized true Visual Visual = end_by (end_class true Visual Visual) refl refl refl refl refl refl
end_sized true Visual NonprecisionAbove = end_by (end_class true Visual NonprecisionAbove) refl refl refl refl refl refl
end_sized true Visual NonprecisionLow = end_by (end_class true Visual NonprecisionLow) refl refl refl refl refl refl
end_sized true Visual Precision = end_by (end_class true Visual Precision) refl refl refl refl refl refl
end_sized true NonprecisionAbove most = end_by (end_class true NonprecisionAbove most) refl refl refl refl refl refl
end_sized true NonprecisionLow most = end_by (end_class true NonprecisionLow most) refl refl refl refl refl refl
end_sized true Precision most = end_by (end_class true Precision most) refl refl refl refl refl refl
end_sized false Visual Visual = end_by (end_class false Visual Visual) refl refl refl refl refl refl
end_sized false Visual NonprecisionAbove = end_by (end_class false Visual NonprecisionAbove) refl refl refl refl refl refl
end_sized false Visual NonprecisionLow = end_by (end_class false Visual NonprecisionLow) refl refl refl refl refl refl
end_sized false Visual Precision = end_by (end_class false Visual Precision) refl refl refl refl refl refl
end_sized false NonprecisionAbove Visual = end_by (end_class false NonprecisionAbove Visual) refl refl refl refl refl refl
end_sized false NonprecisionAbove NonprecisionAbove = end_by (end_class false NonprecisionAbove NonprecisionAbove) refl refl refl refl refl refl
end_sized false NonprecisionAbove NonprecisionLow = end_by (end_class false NonprecisionAbove NonprecisionLow) refl refl refl refl refl refl
end_sized false NonprecisionAbove Precision = end_by (end_class false NonprecisionAbove Precision) refl refl refl refl refl refl
end_sized false NonprecisionLow most = end_by (end_class false NonprecisionLow most) refl refl refl refl refl refl
end_sized false Precision most = end_by (end_class false Precision most) refl refl refl refl refl refl

width_sized : (utility : Bool) (most : ApproachKind) → in_range (pos 10000) (width utility most) ≡ true
width_sized true Visual = refl
width_sized true NonprecisionAbove = refl
width_sized true NonprecisionLow = refl
width_sized true Precision = refl
width_sized false Visual = refl
width_sized false NonprecisionAbove = refl
width_sized false NonprecisionLow = refl
width_sized false Precision = refl

radius_sized : (utility : Bool) (most : ApproachKind) → in_range RADIUS_MOST (radius utility most) ≡ true
radius_sized true most = refl
radius_sized false Visual = refl
radius_sized false NonprecisionAbove = refl
radius_sized false NonprecisionLow = refl
radius_sized false Precision = refl

pub class_sized : (utility : Bool) (a b : ApproachKind) → IsSized (runway_class utility a b)
class_sized utility a b =
    let most = more_precise a b in
    record {
      width_least = above_zero (pos 10000) (width utility most) (width_sized utility most);
      width_most = at_most (pos 10000) (width utility most) (width_sized utility most);
      radius_least = above_zero RADIUS_MOST (radius utility most) (radius_sized utility most);
      radius_most = at_most RADIUS_MOST (radius utility most) (radius_sized utility most);
      end1 = end_sized utility a most;
      end2 = end_sized utility b most;
    }
