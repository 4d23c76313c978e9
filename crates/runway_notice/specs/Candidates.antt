-- For proofs alone: the candidates for the nearest runway.
use Rattle.std.specs.Prelude.{◌≡◌}
use Rattle.grid_exact.specs.declared.point.Point.{Point}
use Rattle.airfields.specs.Runways.{IsProper}
use Rattle.runway_lines.specs.Profiles.{profile, profile_of}
use Rattle.runway_notice.specs.Nearest.{offset_of}
use Rattle.runway_notice.specs.Places.{place_offset}
use Rattle.runway_notice.specs.declared.candidate.Candidate.{Candidate}

-- the centerline, and the position of the point relative to it, are those of the runway
pub record IsCandidate (x : Point) (c : Candidate) : Type 0 where
  pub proper : IsProper c.runway.now
  pub line_is : profile c.line ≡ profile_of c.runway.now
  pub at_is : place_offset c.at ≡ offset_of x c.runway.now
