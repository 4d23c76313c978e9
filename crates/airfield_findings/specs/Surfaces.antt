-- The surfaces of an airfield.
use Rattle.airfields.specs.declared.airfield.Airfield.{Airfield}
use Rattle.airfields.specs.declared.airfield.Airfield.TheVariants as airfields
use Rattle.airfield_findings.specs.declared.surfaces.Surfaces.{Surfaces}
use Rattle.airfield_findings.specs.declared.surfaces.Surfaces.TheVariants as surfaces

-- the airfield that has these surfaces
abbrev pub airfield_with : Surfaces → Airfield
airfield_with (surfaces.Airport a) = airfields.Airport a
airfield_with (surfaces.Heliport h) = airfields.Heliport h
