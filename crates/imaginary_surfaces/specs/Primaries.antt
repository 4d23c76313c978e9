-- The primary surface: 77.19(c).
use Rattle.std.specs.Prelude.{ℕ, ℤ, pos, ◌*◌, ◌≤ℤ◌, ◌<ℤ◌, Bool, ◌&&◌, int_le, Option}
use Rattle.grid_exact.specs.Root.{AtMostRoot}
use Rattle.grid_exact.specs.Excess.{Surface, flat_surface, flat_excess_of, is_at_most_root}
use Rattle.grid_exact.specs.declared.point.Point.{Point}
use Rattle.grid_exact.specs.Lines.{Line, Offset, offset}
use Rattle.runway_lines.specs.Centerlines.{Profile, elevation}

-- the line between its two ends, its width, and the profile of the runway
pub record Primary : Type 0 where
  pub line : Line
  pub width : ℤ
  pub profile : Profile

-- it covers the points between its two ends, at most half its width from its line
pub record PrimaryCovers (p : Primary) (o : Offset) : Type 0 where
  pub past_start : pos 0 ≤ℤ o.along
  pub before_end : o.along ≤ℤ pos o.square
  pub not_beside : AtMostRoot (pos (2 * o.aside)) p.width o.square

-- its elevation is that of the nearest point on the runway centerline
abbrev pub primary_at : Primary → Offset → Point → Surface
primary_at p o x = flat_surface (PrimaryCovers p o) (elevation p.profile x)

abbrev pub primary : Primary → Point → Surface
primary p x = primary_at p (offset p.line x) x

-- ---- the same predicates as tests that compute

unfoldable pub primary_covers : Primary → Offset → Bool
primary_covers p o =
    int_le (pos 0) o.along
    && int_le o.along (pos o.square)
    && is_at_most_root (pos (2 * o.aside)) p.width o.square

abbrev pub excess_over_primary : Primary → Point → ℤ → Option ℕ
excess_over_primary p x top = flat_excess_of (primary_covers p (offset p.line x)) (elevation p.profile x) top

-- ---- for proofs alone

-- a width of a class
pub record IsWidth (width : ℤ) : Type 0 where
  pub least : pos 0 <ℤ width
  pub most : width ≤ℤ pos 10000
