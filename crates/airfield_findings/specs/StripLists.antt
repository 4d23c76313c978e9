-- For proofs alone: the stored form of the surfaces of runways.
use Rattle.std.specs.Prelude.{List}
use Rattle.airfields.specs.declared.runway.Runway.{Runway}
use Rattle.airfield_findings.specs.declared.strips.Strips.{Strips}
use Rattle.airfield_findings.specs.declared.strips.Strips.TheVariants as kept

-- the runways whose surfaces they are
abbrev pub runways_of : Strips → List Runway
runways_of (kept.Lone strip) = strip
runways_of (kept.Listed strips) = strips.items
