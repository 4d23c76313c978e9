-- Which cases an airfield is near: by the areas of its surfaces, and by name.
use Rattle.std.specs.Prelude.{◌≡◌, ℕ, ◌+◌, ◌<◌, ◌||◌, Bool, false, cond, List, [], ◌∷◌, ◌++◌, Option, Some, None, slice_get}
use Rattle.std.specs.List.{list_any}
use Rattle.std.specs.Option.{option_map_or}
use Rattle.grid_exact.specs.Area.{has_point}
use Rattle.grid_exact.specs.declared.area.Area.{Area}
use Rattle.airfields.specs.Sites.{Site, IsSite}
use Rattle.airfields.specs.declared.airfield.Airfield.{Airfield}
use Rattle.airfield_findings.specs.Areas.{AreAreas}
use Rattle.review_marks.specs.Shares.{AirfieldChange, names}
use Rattle.review_marks.specs.declared.row.Row.{Row}

-- the areas of the surfaces of an airfield, where there is one
abbrev pub AreFieldAreas : Option Airfield → List Area → Type 0
AreFieldAreas None areas = areas ≡ []
AreFieldAreas (Some field) areas = AreAreas field areas

-- an area has the point of the structure, or the structure is on the airfield of this name
abbrev pub is_near_site : List Area → List ℕ → Site → Bool
is_near_site areas id site = list_any (λ a. has_point a site.at) areas || names id site

abbrev pub is_near_row : List Area → List ℕ → Option Row → Bool
is_near_row areas id o = option_map_or (λ r. is_near_site areas id r.filing) o false

-- how many of the cases
abbrev pub near_count : List Area → List ℕ → List (Option Row) → ℕ
near_count areas id [] = 0
near_count areas id (o ∷ rows) = cond (is_near_row areas id o) 1 0 + near_count areas id rows

-- so many cases have a point in an area of the airfield as it was before a change or as it is after it, or a filing that names it
pub record AreNearCases (c : AirfieldChange) (rows : List (Option Row)) (n : ℕ) : Type 0 where
  pub was_areas : List Area
  pub now_areas : List Area
  pub are_was : AreFieldAreas c.was was_areas
  pub are_now : AreFieldAreas c.is_now now_areas
  pub count : n ≡ near_count (was_areas ++ now_areas) c.id rows

-- ---- for proofs alone

-- the filings of the first cases are structures as a record has them
abbrev pub AreSites : List (Option Row) → ℕ → Type 0
AreSites rows top = (k : ℕ) (r : Row) → k < top → slice_get rows k ≡ Some (Some r) → IsSite r.filing
