-- Registers that hold a part of another register's airfields and runways.
use Rattle.std.specs.Prelude.{◌≡◌, ℕ, List, Option, Some, None, IfSome}
use Rattle.airfields.specs.Runways.{runway_at}
use Rattle.airfields.specs.declared.runway.Runway.{Runway}
use Rattle.airfields.specs.declared.airfield.Airport.{Airport}
use Rattle.airfields.specs.declared.airfield.Airfield.{Airfield}
use Rattle.airfields.specs.declared.airfield.Airfield.TheVariants.{Airport as AnAirport, Heliport as AHeliport}
use Rattle.airport_register.specs.Amendments.{airfield_at}
use Rattle.airport_register.specs.Registers.{IsRegister}

-- the airport is the other, but may lack some of its runways
pub record IsAirportPart (a whole : Airport) : Type 0 where
  pub id : a.id ≡ whole.id
  pub category : a.category ≡ whole.category
  pub arp : a.arp ≡ whole.arp
  pub elevation : a.elevation ≡ whole.elevation
  pub runways : (name : List ℕ) → IfSome (runway_at a.runways name) (λ (r : Runway). runway_at whole.runways name ≡ Some r)

-- the part's airfield under a name, against the whole's
abbrev pub IsFieldPart : Option Airfield → Option Airfield → Type 0
IsFieldPart None whole = Unit {0}
IsFieldPart (Some field) None = ⊥
IsFieldPart (Some (AnAirport a)) (Some (AnAirport whole)) = IsAirportPart a whole
IsFieldPart (Some (AnAirport a)) (Some (AHeliport h)) = ⊥
IsFieldPart (Some (AHeliport h)) (Some (AnAirport a)) = ⊥
IsFieldPart (Some (AHeliport h)) (Some (AHeliport whole)) = h ≡ whole

-- a register with some of the airfields of another, and airports with some of their runways
pub record IsPart (part whole : List Airfield) : Type 0 where
  pub register : IsRegister part
  pub fields : (id : List ℕ) → IsFieldPart (airfield_at part id) (airfield_at whole id)
