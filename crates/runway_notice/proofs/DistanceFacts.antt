-- The centerlines of runways.
use Rattle.std.proofs.Common.{◌<◌}
use Rattle.grid_exact.specs.Lines.{square}
use Rattle.airfields.specs.Runways.{IsWithinLength}
use Rattle.airfields.specs.declared.runway.Runway.{Runway}
use Rattle.runway_lines.specs.Profiles.{profile_of}
use Rattle.runway_lines.proofs.AxisFacts.{runway_square}

-- a runway has a length
pub profile_some : (r : Runway) → IsWithinLength r → 0 < square (profile_of r).line
unfolding profile_of
profile_some r h = (runway_square r h).some
