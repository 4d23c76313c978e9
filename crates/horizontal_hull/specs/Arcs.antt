-- The arcs whose tangents bound the horizontal surface: 77.19(a).
use Rattle.std.specs.Prelude.{ℕ, ℤ, ◌+ℤ◌, List, [], ◌∷◌, unsigned_abs, if◌then◌else◌}
use Rattle.std.specs.List.{flat_map}
use Rattle.std.proofs.Common.{map}
use Rattle.airfields.specs.declared.runway.Runway.{Runway}
use Rattle.airfields.specs.declared.airfield.Airport.{Airport}
use Rattle.airfields.specs.Categories.{has_civil_surfaces}
use Rattle.center_polygon.specs.Spots.{Spot}
use Rattle.runway_lines.specs.Ends.{center_x, center_y, class_of}
use Rattle.runway_lines.specs.declared.end.End.{End}
use Rattle.runway_lines.specs.declared.end.End.TheVariants.{One, Two}
use Rattle.horizontal_hull.specs.declared.sizes.TheConstants.{HORIZONTAL_RISE}

-- an arc, given by its center and radius
pub record ArcShape : Type 0 where
  pub x : ℤ
  pub y : ℤ
  pub radius : ℕ

-- the position of its center
abbrev pub spot_of : ArcShape → Spot
spot_of a = record { x = a.x; y = a.y }

-- the arc about the center at an end of the primary surface of a runway
abbrev pub arc : Runway → End → ArcShape
arc r end = record { x = center_x r end; y = center_y r end; radius = unsigned_abs (class_of r).radius }

abbrev pub arcs_of_runway : Runway → List ArcShape
arcs_of_runway r = arc r One ∷ arc r Two ∷ []

-- the centers of arcs
abbrev pub centers_of : List ArcShape → List Spot
centers_of arcs = map spot_of arcs

-- the arcs of an airport: the arcs of its runways where its category has the surfaces of 77.19, which are for civil airports, else none
abbrev pub arcs_of : Airport → List ArcShape
arcs_of a = if has_civil_surfaces a.category then flat_map arcs_of_runway a.runways else []

-- the arcs of an airport, and the elevation of its horizontal surface, 150 feet above the established airport elevation
pub record Dome : Type 0 where
  pub arcs : List ArcShape
  pub level : ℤ

unfoldable pub dome_of : Airport → Dome
dome_of a = record { arcs = arcs_of a; level = a.elevation +ℤ HORIZONTAL_RISE }
