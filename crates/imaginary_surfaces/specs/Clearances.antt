-- For proofs alone: points far enough from a runway that a top is above none of its surfaces.
use Rattle.std.specs.Prelude.{ℤ, pos, neg_ℤ, None, ◌≡◌, ◌⊎◌, ◌*◌, ◌≤◌, ◌+ℤ◌, ◌-ℤ◌, ◌*ℤ◌, ◌≤ℤ◌, ◌<ℤ◌, unsigned_abs}
use Rattle.std.specs.Int.{int_max}
use Rattle.grid_exact.specs.Lines.{Offset, square}
use Rattle.runway_classes.specs.declared.class.TheConstants.{PRECISION_SLOPE, WIDENING_SCALE}
use Rattle.imaginary_surfaces.specs.Primaries.{Primary}
use Rattle.imaginary_surfaces.specs.Approaches.{Approach}
use Rattle.imaginary_surfaces.specs.declared.clearance.Clearance.{Clearance}
use Rattle.imaginary_surfaces.specs.declared.excesses.StripExcesses.{StripExcesses}
use Rattle.imaginary_surfaces.specs.declared.measures.TheConstants.{APPROACH_FACTOR, HALF_WIDTH_SCALE, MOST_WIDENING, SECOND_SLOPE_DROP}

-- the length is at least that of the primary surface's line, and no surface begins below the lowest level
pub record IsClearance (p : Primary) (one two : Approach) (c : Clearance) : Type 0 where
  pub length : square p.line ≤ c.length * c.length
  pub level : c.lowest ≤ℤ (p.profile.z -ℤ pos (unsigned_abs p.profile.rise))
  pub level1 : c.lowest ≤ℤ (one.z -ℤ SECOND_SLOPE_DROP)
  pub level2 : c.lowest ≤ℤ (two.z -ℤ SECOND_SLOPE_DROP)
  pub width : c.width ≡ p.width
  pub width1 : c.width ≡ one.width
  pub width2 : c.width ≡ two.width

-- the distance of a point past either end of the line, times the line's length
abbrev pub past_end : Offset → ℤ
past_end o = int_max (int_max (neg_ℤ o.along) (o.along -ℤ pos o.square)) (pos 0)

-- the height of a top above the lowest level
abbrev pub rise_to : Clearance → ℤ → ℤ
rise_to c top = int_max (top -ℤ c.lowest) (pos 0)

-- far enough ahead that the gentlest slope is at or above the top there
abbrev pub IsFarAhead : Clearance → ℤ → (ahead : ℤ) → Type 0
IsFarAhead c rise ahead = ((PRECISION_SLOPE *ℤ rise) *ℤ pos c.length) <ℤ ahead

-- far enough to the side of the widest approach surface that the transitional surface is at or above the top
abbrev pub IsFarAside : Clearance → ℤ → (ahead aside : ℤ) → Type 0
IsFarAside c rise ahead aside = ((HALF_WIDTH_SCALE *ℤ c.width +ℤ APPROACH_FACTOR *ℤ rise) *ℤ pos c.length) <ℤ (WIDENING_SCALE *ℤ aside -ℤ MOST_WIDENING *ℤ ahead)

abbrev pub IsClear : Clearance → Offset → ℤ → Type 0
IsClear c o top = (IsFarAhead c (rise_to c top) (past_end o)) ⊎ (IsFarAside c (rise_to c top) (past_end o) (pos o.aside))

-- no surface is exceeded
abbrev pub none_exceeded : StripExcesses
none_exceeded = record { primary = None; approach1 = None; approach2 = None; beside_primary = None; beside_approach1 = None; beside_approach2 = None }
