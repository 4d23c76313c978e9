-- Prepared airfields as specs see them.
use Rattle.airfields.specs.declared.airfield.Airfield.{Airfield}
use Rattle.airfield_findings.specs.Surfaces.{airfield_with}
use Rattle.airfield_findings.specs.declared.prepared.Prepared.{Prepared}

-- the airfield whose surfaces were prepared
abbrev pub airfield_of : Prepared → Airfield
airfield_of p = airfield_with p.surfaces
