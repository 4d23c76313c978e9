-- Points outside all areas of an airfield, where it has no entries.
use Rattle.std.specs.Prelude.{◌≡◌, ℕ, ℤ, List, []}
use Rattle.std.specs.List.{All, flat_map}
use Rattle.grid_exact.specs.Area.{Has}
use Rattle.grid_exact.specs.Level.{IsLevel}
use Rattle.grid_exact.specs.declared.area.Area.{Area}
use Rattle.grid_exact.specs.declared.cap.Cap.{Cap}
use Rattle.grid_exact.specs.declared.point.Point.{Point}
use Rattle.airfields.specs.Sites.{Site}
use Rattle.airfields.specs.declared.airfield.Airfield.{Airfield}
use Rattle.airfields.specs.declared.airfield.Airport.{Airport}
use Rattle.airfields.specs.declared.runway.Runway.{Runway}
use Rattle.imaginary_surfaces.specs.Areas.{HullHas}
use Rattle.airfield_findings.specs.Entries.{of_airfield, of_runway, of_surfaces, slope_entries}
use Rattle.airfield_findings.specs.Reaches.{HasLevels}

-- no area contains the point
abbrev pub IsOutside : List Area → Point → Type 0
IsOutside areas x = All (λ a. ¬ Has a x) areas

-- the airfield has no standard and no notice slope for a structure at a point outside all areas
pub record LeavesOut (f : Airfield) (areas : List Area) : Type 0 where
  pub standards : (site : Site) → HasLevels site → IsOutside areas site.at → of_airfield site f ≡ []
  pub slopes : (site : Site) → HasLevels site → IsOutside areas site.at → slope_entries site f ≡ []

-- ---- the same for the parts of an airport, for proofs alone

abbrev pub LeavesRunwaysOut : (hull : Area) → List Runway → List Area → Type 0
LeavesRunwaysOut hull runways areas =
    (id : List ℕ) (x : Point) (top : ℤ) (cap : Cap) → IsLevel top → HullHas hull x cap → IsOutside areas x → flat_map (of_runway id x top cap) runways ≡ []

abbrev pub LeavesSurfacesOut : Airport → List Area → Type 0
LeavesSurfacesOut a areas = (x : Point) (top : ℤ) → IsLevel top → IsOutside areas x → of_surfaces x top a ≡ []
