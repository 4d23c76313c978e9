-- The elevation of the runway's centerline: 77.19(c).
use Rattle.std.specs.Prelude.{ℕ, ℤ, pos, ◌+ℤ◌, ◌*ℤ◌, ◌≤◌, ◌^◌, unsigned_abs, int_lt, if◌then◌else◌}
use Rattle.std.specs.Int.{int_div_euclid}
use Rattle.grid_exact.specs.declared.point.Point.{Point}
use Rattle.grid_exact.specs.Lines.{Line, Offset, offset}

-- a runway's line, the elevation of its first end, and the elevation of its second end minus that of the first
pub record Profile : Type 0 where
  pub line : Line
  pub z : ℤ
  pub rise : ℤ

-- m limited to 0 to n
abbrev pub clamped_length : ℤ → ℕ → ℤ
clamped_length m n = if int_lt m (pos 0) then pos 0 else if int_lt (pos n) m then pos n else m

-- the elevation of the centerline's point nearest to a point with this offset, minus that of the first end, rounded down
abbrev pub climb : Profile → Offset → ℤ
climb p o = int_div_euclid (p.rise *ℤ clamped_length o.along o.square) (pos o.square)

-- the elevation of the nearest point of the centerline, rounded down
abbrev pub elevation_at : Profile → Offset → ℤ
elevation_at p o = p.z +ℤ climb p o

abbrev pub elevation : Profile → Point → ℤ
elevation p x = elevation_at p (offset p.line x)

-- ---- for proofs alone

-- bounds on the elevations of a runway
pub record IsSloped (z rise : ℤ) : Type 0 where
  pub z_size : unsigned_abs z ≤ 2 ^ 18
  pub rise_size : unsigned_abs rise ≤ 2 ^ 18
