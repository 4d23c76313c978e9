-- A surface of a heliport between two lateral boundaries, and the transitional surfaces beside it: 77.23.
use Rattle.std.specs.Prelude.{ℤ, ℕ, Bool, ◌&&◌, IsTrue, Option}
use Rattle.grid_exact.specs.Root.{AtLeastRoot, AtMostRoot}
use Rattle.grid_exact.specs.Excess.{Surface, root_surface, root_excess_of, is_at_least_root, is_at_most_root}
use Rattle.heliport_surfaces.specs.declared.rules.TheConstants.{TRANSITION_REACH}

-- the position of a point relative to such a surface on an axis of length sqrt(n): whether it is within the surface's extent along the
-- axis; its distance to a side and the distance of the boundary there, out <= edge * sqrt(n) for a point that is not outside it; its
-- distance from the axis, times sqrt(n); and n
pub record Place : Type 0 where
  pub is_along : Bool
  pub out : ℤ
  pub edge : ℤ
  pub aside : ℤ
  pub square : ℕ

-- the surface covers the points within its extent along the axis that are not outside its lateral boundaries
pub record IsCovered (p : Place) : Type 0 where
  pub along : IsTrue p.is_along
  pub not_outside : AtMostRoot p.out p.edge p.square

-- the transitional surfaces beside it cover the points in the same extent, from its lateral boundaries to 250 feet from the axis
pub record IsCoveredBeside (p : Place) : Type 0 where
  pub along : IsTrue p.is_along
  pub not_inside : AtLeastRoot p.out p.edge p.square
  pub not_far : AtMostRoot p.aside TRANSITION_REACH p.square

-- the heights z with a <= (k * z - c) * sqrt(n)
pub record Heights : Type 0 where
  pub a : ℤ
  pub k : ℤ
  pub c : ℤ
  pub n : ℕ

-- the surface with these heights
abbrev pub sloping_surface : Type 0 → Heights → Surface
sloping_surface covers h = root_surface covers h.a h.k h.c h.n

-- ---- the same predicates as tests that compute

unfoldable pub is_covered : Place → Bool
is_covered p = p.is_along && is_at_most_root p.out p.edge p.square

unfoldable pub is_covered_beside : Place → Bool
is_covered_beside p = p.is_along && is_at_least_root p.out p.edge p.square && is_at_most_root p.aside TRANSITION_REACH p.square

abbrev pub excess_over : Bool → Heights → ℤ → Option ℕ
excess_over covers h top = root_excess_of covers h.a h.k h.c h.n top
