-- The area of the limit near an airport: 77.17(a)(2).
use Rattle.std.specs.Prelude.{ℤ, pos, ◌-ℤ◌, ◌*ℤ◌, ◌≤ℤ◌, ◌≡◌, true}
use Rattle.std.specs.List.{list_any}
use Rattle.grid_exact.specs.Root.{AtLeastRoot}
use Rattle.grid_exact.specs.Vector.{length_of}
use Rattle.grid_exact.specs.declared.area.Area.{Area}
use Rattle.grid_exact.specs.declared.point.Point.{Point}
use Rattle.outline_boxes.specs.Boxes.{IsLeastBox}
use Rattle.airfields.specs.Categories.{is_described}
use Rattle.airfields.specs.Runways.{is_long}
use Rattle.airfields.specs.declared.airfield.Airport.{Airport}
use Rattle.height_rules.specs.declared.limit.TheConstants.{NAUTICAL_MILE}
use Rattle.height_rules.specs.declared.near_airport.TheConstants.{OUTER_HUNDREDTHS}

-- the airport has the limit: it is of a described category and has a long runway
pub record HasLimit (a : Airport) : Type 0 where
  pub described : is_described a.category ≡ true
  pub long : list_any is_long a.runways ≡ true

-- the airport has that limit, this reference point and this elevation
pub record IsLimited (a : Airport) (arp : Point) (elevation : ℤ) : Type 0 where
  pub limit : HasLimit a
  pub x_is : a.arp.x ≡ arp.x
  pub y_is : a.arp.y ≡ arp.y
  pub elevation_is : a.elevation ≡ elevation

-- a whole point, on the grid or past its edge, is at most 5.99 nautical miles from the reference point
abbrev pub IsWithin : Point → (x y : ℤ) → Type 0
IsWithin arp x y = AtLeastRoot (OUTER_HUNDREDTHS *ℤ NAUTICAL_MILE) (pos 100) (length_of (x -ℤ arp.x) (y -ℤ arp.y))

-- a box contains all of those points
pub record HoldsDisc (arp : Point) (box : Area) : Type 0 where
  pub west : (x y : ℤ) → IsWithin arp x y → box.x0 ≤ℤ x
  pub south : (x y : ℤ) → IsWithin arp x y → box.y0 ≤ℤ y
  pub east : (x y : ℤ) → IsWithin arp x y → x ≤ℤ box.x1
  pub north : (x y : ℤ) → IsWithin arp x y → y ≤ℤ box.y1

-- the least box that contains them, for an airport with the limit
pub record IsNearArea (a : Airport) (box : Area) : Type 0 where
  pub has_limit : HasLimit a
  pub disc_least : IsLeastBox (HoldsDisc a.arp) box
