-- The placement of an airfield, and the boxes outside which it has no entry.
use Rattle.std.specs.Prelude.{◌≡◌, ℕ, ℤ, List, [], false, Option, None}
use Rattle.grid_exact.specs.Area.{Has, has_point}
use Rattle.grid_exact.specs.Level.{IsLevel}
use Rattle.grid_exact.specs.declared.area.Area.{Area}
use Rattle.grid_exact.specs.declared.cap.Cap.{Cap}
use Rattle.grid_exact.specs.declared.point.Point.{Point}
use Rattle.airfields.specs.Sites.{Site}
use Rattle.airfields.specs.declared.airfield.Airfield.{Airfield}
use Rattle.airfields.specs.declared.airfield.Airport.{Airport}
use Rattle.airfields.specs.declared.runway.Runway.{Runway}
use Rattle.height_rules.specs.NearAirport.{near_excess}
use Rattle.height_rules.specs.NearAreas.{HasLimit}
use Rattle.height_rules.specs.Heights.{notice_top, standards_top}
use Rattle.runway_notice.specs.Notices.{notice_slope}
use Rattle.imaginary_surfaces.specs.Areas.{HullHas}
use Rattle.surface_tree.specs.declared.placed.Plot.{Plot}
use Rattle.airfield_findings.specs.Plots.{IsOver, IsPlotOf}
use Rattle.airfield_findings.specs.Entries.{of_airfield, of_runway, of_surfaces, slope_entries}

-- both tops of a structure are levels
pub record HasLevels (site : Site) : Type 0 where
  pub standards_level : IsLevel (standards_top site)
  pub notice_level : IsLevel (notice_top site)

-- the plot is the airfield's, and the airfield has no entry for a structure outside the plot's area
pub record IsInPlace (plot : Plot) (f : Airfield) : Type 0 where
  pub is_plot : IsPlotOf f plot
  pub standards : (site : Site) → HasLevels site → has_point plot.area site.at ≡ false → of_airfield site f ≡ []
  pub slopes : (site : Site) → HasLevels site → has_point plot.area site.at ≡ false → slope_entries site f ≡ []

-- the boxes of the parts of an airport: of the limit of 77.17(a)(2), if it has that limit, of 77.9(b), and of the surfaces of 77.19
pub record IsAirportReach (a : Airport) (near notice surfaces : Option Area) : Type 0 where
  pub near_limit : (x : Point) → IsOver near x → HasLimit a
  pub near_none : (site : Site) → ¬ IsOver near site.at → near_excess a site ≡ None
  pub notice_none : (x : Point) (top : ℤ) → IsLevel top → ¬ IsOver notice x → notice_slope a x top ≡ None
  pub surfaces_none : (x : Point) (top : ℤ) → IsLevel top → ¬ IsOver surfaces x → of_surfaces x top a ≡ []

-- no level is above a surface of the runway outside the area, where the box `hull` contains each point that the horizontal or conical
-- surface covers
abbrev pub IsRunwayReach : (hull : Area) → Runway → Area → Type 0
IsRunwayReach hull r area = (id : List ℕ) (x : Point) (top : ℤ) (cap : Cap) → IsLevel top → HullHas hull x cap → ¬ Has area x → of_runway id x top cap r ≡ []
