-- The placement of an airfield in a tree of areas.
use Rattle.std.specs.Prelude.{◌≡◌, ◌≢◌, ◌||◌, [], true, nat_eq, List, Option, None, Some}
use Rattle.std.specs.List.{All, list_any}
use Rattle.std.specs.Option.{MatchOption, IsSomeAnd}
use Rattle.grid_exact.specs.Area.{Has}
use Rattle.grid_exact.specs.declared.area.Area.{Area}
use Rattle.grid_exact.specs.declared.point.Point.{Point}
use Rattle.airfields.specs.declared.airfield.Airfield.{Airfield}
use Rattle.airfields.specs.declared.airfield.Airport.{Airport}
use Rattle.height_rules.specs.NearAreas.{HasLimit, IsNearArea}
use Rattle.outline_boxes.specs.Boxes.{Encloses, IsLeastBox}
use Rattle.runway_notice.specs.NoticeAreas.{HasSlope, IsNoticeArea}
use Rattle.surface_tree.specs.Levels.{IsPlaced}
use Rattle.surface_tree.specs.Visits.{close_area, near_area}
use Rattle.surface_tree.specs.declared.placed.Plot.{Plot}
use Rattle.airfield_findings.specs.Areas.{AreAreas, AreSurfaceAreas}
use Rattle.airfield_findings.specs.declared.plots.TheConstants.{LARGE_LEVEL, SMALL_LEVEL}

-- the least box that encloses several boxes; none where there are no boxes
abbrev pub IsJoin : List Area → Option Area → Type 0
IsJoin areas None = areas ≡ []
IsJoin areas (Some box) = (areas ≢ []) × IsLeastBox (λ b. All (λ t. Encloses b t) areas) box

-- the boxes of the parts of an airport: of the limit of 77.17(a)(2), of the notice slope of 77.9(b)(1) or (2), and of all surfaces of 77.19
pub record AreParts (a : Airport) (near notice surfaces : Option Area) : Type 0 where
  pub near_box : MatchOption near (¬ HasLimit a) (IsNearArea a)
  pub notice_box : MatchOption notice (¬ HasSlope a) (IsNoticeArea a)
  pub areas : List Area
  pub surface_areas : AreSurfaceAreas a areas
  pub surfaces_box : IsJoin areas surfaces

-- a visit tests the item on the plot only where some surface of the airfield has its area's center near the point
abbrev pub IsSeenNear : Airfield → Plot → Type 0
IsSeenNear f plot = (areas : List Area) → AreAreas f areas → (x : Point) → close_area x plot ≡ true → list_any (λ t. near_area x t) areas ≡ true

-- the surfaces of the airfield have areas
abbrev pub HasAreas : Airfield → Type 0
HasAreas f = ∥ ((areas : List Area) × AreAreas f areas) ∥₁

-- the plot of an airfield: in the plane, in squares of one of two sizes, and seen near its surfaces alone, which have areas
pub record IsPlotOf (f : Airfield) (plot : Plot) : Type 0 where
  pub some_areas : HasAreas f
  pub placed : IsPlaced plot
  pub level : (nat_eq plot.level SMALL_LEVEL || nat_eq plot.level LARGE_LEVEL) ≡ true
  pub seen : IsSeenNear f plot

-- there is a box, and it contains the point
abbrev pub IsOver : Option Area → Point → Type 0
IsOver area x = IsSomeAnd area (λ a. Has a x)
