-- The number of surfaces near a point, which bounds the steps of a search.
use Rattle.std.specs.Prelude.{◌≡◌, ℕ, ◌+◌, List, [], ◌∷◌, count_by}
use Rattle.grid_exact.specs.declared.area.Area.{Area}
use Rattle.grid_exact.specs.declared.point.Point.{Point}
use Rattle.airfields.specs.declared.airfield.Airfield.{Airfield}
use Rattle.surface_tree.specs.Visits.{near_area}
use Rattle.airfield_findings.specs.Areas.{AreAreas}

-- n surfaces of these airfields have areas whose centers are near the point: in each coordinate within one and a half times the side of
-- the area's size
abbrev pub AreNear : List Airfield → Point → ℕ → Type 0
AreNear [] x n = n ≡ 0
AreNear (f ∷ fs) x n = (areas : List Area) × (rest : ℕ) × AreAreas f areas × AreNear fs x rest × (n ≡ count_by (λ a. near_area x a) areas + rest)

-- there is one such number, and no other: each airfield has one list of areas
pub record HasOneNear (fields : List Airfield) (x : Point) : Type 0 where
  pub some_number : ∥ ((n : ℕ) × AreNear fields x n) ∥₁
  pub one_number : (n m : ℕ) → AreNear fields x n → AreNear fields x m → n ≡ m
