-- The invariant of a prepared airport.
use Rattle.std.specs.Prelude.{ℕ, List, Option, IfSome, ◌≡◌}
use Rattle.grid_exact.specs.declared.area.Area.{Area}
use Rattle.airfields.specs.Airfields.{IsHeldAirport}
use Rattle.horizontal_hull.specs.Arcs.{Dome, dome_of}
use Rattle.airfields.specs.declared.runway.Runway.{Runway}
use Rattle.airfields.specs.declared.airfield.Airport.{Airport}
use Rattle.airfields.specs.declared.category.Category.{Category}
use Rattle.runway_notice.specs.LoneRunways.{IsLoneOf}
use Rattle.airfield_findings.specs.Reaches.{IsAirportReach}
use Rattle.airfield_findings.specs.declared.datum.Datum.{Datum}

-- the reference point and the elevation are the airport's
pub record IsDatumOf (a : Airport) (d : Datum) : Type 0 where
  pub x_is : d.x ≡ a.arp.x
  pub y_is : d.y ≡ a.arp.y
  pub elevation_is : d.elevation ≡ a.elevation

-- the airport is within its limits, the data stored beside it are its own, the surfaces are those of its runways, the boxes contain its
-- parts, and a runway that is stored separately is the only one
pub record IsPreparedAirport (a : Airport) (datum : Datum) (id : List ℕ) (category : Category) (hull : Dome) (strips : List Runway) (lone : Option Runway) (near notice surfaces : Option Area) : Type 0 where
  pub held : IsHeldAirport a
  pub datum_is : IsDatumOf a datum
  pub id_is : id ≡ a.id
  pub category_is : category ≡ a.category
  pub hull_is : hull ≡ dome_of a
  pub strips_are : strips ≡ a.runways
  pub reach : IsAirportReach a near notice surfaces
  pub lone_is : IfSome lone (IsLoneOf a)
