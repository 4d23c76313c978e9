-- For proofs alone: bounds that follow from the limits of a heliport.
use Rattle.std.specs.Prelude.{ℕ, ℤ, ◌*◌, ◌<◌, ◌≤◌, ◌^◌, ◌≤ℤ◌, unsigned_abs}
use Rattle.airfields.specs.declared.limits.TheConstants.{HELIPORT_AXIS_MOST, HELIPORT_WIDTH_LEAST, HELIPORT_WIDTH_MOST}
use Rattle.heliport_surfaces.specs.declared.rules.TheConstants.{CIVIL_SLOPE, MILITARY_SLOPE}

-- a bound on the square length of an axis
pub record IsShortAxis (n : ℕ) : Type 0 where
  pub size : n ≤ HELIPORT_AXIS_MOST * HELIPORT_AXIS_MOST

-- bounds on the width and the elevation of a takeoff and landing area
pub record HasPadSizes (width z : ℤ) : Type 0 where
  pub width_least : HELIPORT_WIDTH_LEAST ≤ℤ width
  pub width_most : width ≤ℤ HELIPORT_WIDTH_MOST
  pub z_size : unsigned_abs z ≤ 2 ^ 18

-- a bound on the slope of an approach surface
pub record IsPadSlope (slope : ℤ) : Type 0 where
  pub slope_least : CIVIL_SLOPE ≤ℤ slope
  pub slope_most : slope ≤ℤ MILITARY_SLOPE

-- bounds on the position of a point of the grid relative to a surface
pub record HasPlaceSizes (out edge aside : ℤ) (square : ℕ) : Type 0 where
  pub out_size : unsigned_abs out ≤ 2 ^ 57
  pub edge_size : unsigned_abs edge ≤ 2 ^ 41
  pub aside_size : unsigned_abs aside ≤ 2 ^ 40
  pub square_size : square ≤ HELIPORT_AXIS_MOST * HELIPORT_AXIS_MOST

-- bounds on the position of a point of the grid relative to a takeoff and landing area
pub record HasGapSizes (beyond aside width square : ℕ) : Type 0 where
  pub beyond_size : beyond ≤ 2 ^ 41
  pub aside_size : aside ≤ 2 ^ 40
  pub width_size : width ≤ unsigned_abs HELIPORT_WIDTH_MOST
  pub some : 0 < square
  pub square_size : square ≤ HELIPORT_AXIS_MOST * HELIPORT_AXIS_MOST
