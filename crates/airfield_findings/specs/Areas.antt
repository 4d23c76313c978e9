-- The areas of the surfaces of an airfield, one for each of its surfaces.
use Rattle.std.specs.Prelude.{◌≡◌, ◌++◌, ◌∷◌, ◌⊎◌, [], List, Option}
use Rattle.std.specs.Bool.{MatchBool}
use Rattle.std.specs.Option.{MatchOption, option_to_list}
use Rattle.grid_exact.specs.declared.area.Area.{Area}
use Rattle.airfields.specs.Categories.{is_described}
use Rattle.airfields.specs.declared.airfield.Airfield.{Airfield}
use Rattle.airfields.specs.declared.airfield.Airfield.TheVariants.{Airport as AnAirport, Heliport as AHeliport}
use Rattle.airfields.specs.declared.airfield.Airport.{Airport}
use Rattle.airfields.specs.declared.airfield.Heliport.{Heliport}
use Rattle.airfields.specs.declared.runway.Runway.{Runway}
use Rattle.height_rules.specs.NearAreas.{HasLimit, IsNearArea}
use Rattle.horizontal_hull.specs.Arcs.{dome_of}
use Rattle.horizontal_hull.specs.Areas.{AreHullAreas}
use Rattle.horizontal_hull.specs.declared.areas.HullAreas.{HullAreas}
use Rattle.imaginary_surfaces.specs.Areas.{AreStripAreas}
use Rattle.heliport_surfaces.specs.Areas.{ArePadAreas}
use Rattle.runway_notice.specs.NoticeAreas.{HasSlope, IsNoticeArea}

-- the six areas of each runway, one runway after the other: 77.19(c) to (e); the transitional surfaces end in the box `hull`
abbrev pub AreRunwayAreas : (hull : Area) → List Runway → List Area → Type 0
AreRunwayAreas hull [] areas = areas ≡ []
AreRunwayAreas hull (r ∷ rs) areas = (first rest : List Area) × AreStripAreas r hull first × AreRunwayAreas hull rs rest × (areas ≡ first ++ rest)

-- the areas of an airport's surfaces of 77.19: none where it has no such surfaces; else those of the horizontal and conical surfaces and
-- of its runways
pub record HaveSurfaces (a : Airport) (areas : List Area) : Type 0 where
  pub hull : HullAreas
  pub runways : List Area
  pub hull_areas : AreHullAreas (dome_of a).arcs hull
  pub runway_areas : AreRunwayAreas hull.conical a.runways runways
  pub ordered : areas ≡ hull.horizontal ∷ hull.conical ∷ runways

abbrev pub AreSurfaceAreas : Airport → List Area → Type 0
AreSurfaceAreas a areas = (((dome_of a).arcs ≡ []) × (areas ≡ [])) ⊎ HaveSurfaces a areas

-- the areas of an airport: of the limit of 77.17(a)(2), of the surfaces of 77.19, and of the notice slope of 77.9(b)(1) or (2)
pub record AreAirportAreas (a : Airport) (areas : List Area) : Type 0 where
  pub near : Option Area
  pub surfaces : List Area
  pub notice : Option Area
  pub near_area : MatchOption near (¬ HasLimit a) (IsNearArea a)
  pub surface_areas : AreSurfaceAreas a surfaces
  pub notice_area : MatchOption notice (¬ HasSlope a) (IsNoticeArea a)
  pub ordered : areas ≡ option_to_list near ++ surfaces ++ option_to_list notice

-- the areas of a heliport: the seven of 77.23 and 77.9(b)(3), where its category is described
abbrev pub AreHeliportAreas : Heliport → List Area → Type 0
AreHeliportAreas h areas = MatchBool (is_described h.category) (ArePadAreas h areas) (areas ≡ [])

abbrev pub AreAreas : Airfield → List Area → Type 0
AreAreas (AnAirport a) areas = AreAirportAreas a areas
AreAreas (AHeliport h) areas = AreHeliportAreas h areas
