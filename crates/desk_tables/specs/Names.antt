-- Airfields with valid names, also of their runways.
use Rattle.std.specs.Prelude.{All}
use Rattle.airfields.specs.Names.{IsFieldId, IsRunwayName}
use Rattle.airfields.specs.declared.runway.Runway.{Runway}
use Rattle.airfields.specs.declared.airfield.Airfield.{Airfield}
use Rattle.airfields.specs.declared.airfield.Airfield.TheVariants.{Airport as AnAirport, Heliport as AHeliport}
use Rattle.airport_register.specs.declared.amendment.Amendment.{Amendment}
use Rattle.airport_register.specs.declared.amendment.Amendment.TheVariants.{PutAirport, PutRunway, DropRunway, PutHeliport, Drop}

abbrev pub HasName : Runway → Type 0
HasName r = IsRunwayName r.name

-- the name of the airfield is valid, and so are those of its runways
abbrev pub IsNamed : Airfield → Type 0
IsNamed (AnAirport a) = IsFieldId a.id × All HasName a.runways
IsNamed (AHeliport h) = IsFieldId h.id

-- the names that an amendment adds are valid
abbrev pub PutsNames : Amendment → Type 0
PutsNames (PutAirport id category arp elevation) = IsFieldId id
PutsNames (PutRunway id r) = IsRunwayName r.name
PutsNames (DropRunway id name) = Unit {0}
PutsNames (PutHeliport h) = IsFieldId h.id
PutsNames (Drop id) = Unit {0}
