-- For proofs alone: the slope where the end of a runway is nearest to a point, from the squared distance, which is a whole number.
use Rattle.std.specs.Prelude.{ℕ, ℤ, ◌*◌, ◌≤◌, ◌-ℤ◌, unsigned_abs}
use Rattle.grid_exact.specs.Excess.{Surface}
use Rattle.grid_exact.specs.Vector.{length_of}
use Rattle.grid_exact.specs.declared.point.Point.{Point}
use Rattle.runway_notice.specs.Distances.{Fraction, IsAtLeastRootOf, IsAboveRootOf, run_of}
use Rattle.runway_notice.specs.Slopes.{range_of, ratio_of}
use Rattle.runway_notice.specs.declared.slope.Sub.{Sub}
use Rattle.runway_notice.specs.declared.slope.TheConstants.{RANGE_B1}

-- a whole number as a fraction
abbrev pub whole_fraction : ℕ → Fraction
whole_fraction q = record { part = q; whole = 1 }

-- the square of the distance between two points
abbrev pub square_between : Point → Point → ℕ
square_between p x = length_of (x.x -ℤ p.x) (x.y -ℤ p.y)

-- a squared distance within the range of a slope
pub record IsInReach (q : ℕ) : Type 0 where
  pub size : q ≤ unsigned_abs RANGE_B1 * unsigned_abs RANGE_B1

-- the slope from an end at the elevation base, at a point with the squared distance q from it
abbrev pub end_surface : Sub → ℤ → ℕ → Surface
end_surface sub base q = record {
  Covers = IsAtLeastRootOf (whole_fraction q) (range_of sub);
  Above = λ z. IsAboveRootOf (whole_fraction q) (run_of (ratio_of sub) base z);
  AtOrAbove = λ z. IsAtLeastRootOf (whole_fraction q) (run_of (ratio_of sub) base z);
}
