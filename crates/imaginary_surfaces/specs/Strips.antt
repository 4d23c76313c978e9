-- The primary surface, the approach surfaces and the transitional surfaces of a runway: 77.19(c), (d), (e).
use Rattle.std.specs.Prelude.{ℕ, ℤ, Option, ◌≡◌}
use Rattle.grid_exact.specs.Excess.{Surface}
use Rattle.grid_exact.specs.declared.cap.Cap.{Cap}
use Rattle.grid_exact.specs.declared.point.Point.{Point}
use Rattle.airfields.specs.declared.runway.Runway.{Runway}
use Rattle.airfields.specs.Runways.{effective, is_precision}
use Rattle.runway_lines.specs.declared.end.End.{End}
use Rattle.runway_lines.specs.declared.end.End.TheVariants.{One, Two}
use Rattle.runway_lines.specs.Ends.{other_end, end_of, line_between, class_of, end_class_of}
use Rattle.runway_lines.specs.Profiles.{profile_of}
use Rattle.imaginary_surfaces.specs.declared.excesses.StripExcesses.{StripExcesses}
use Rattle.imaginary_surfaces.specs.Primaries.{Primary, primary, excess_over_primary}
use Rattle.imaginary_surfaces.specs.Approaches.{Approach, approach, excess_over_approach}
use Rattle.imaginary_surfaces.specs.Transitions.{beside_primary, beside_approach, excess_beside_primary, excess_beside_approach}

unfoldable pub primary_of : Runway → Primary
primary_of r = record { line = line_between r One One Two; width = (class_of r).width; profile = profile_of r }

unfoldable pub approach_of : Runway → End → Approach
approach_of r end = record {
  line = line_between r end (other_end end) end;
  width = (class_of r).width;
  class = end_class_of r end;
  z = (end_of r end).z;
  precision = is_precision (effective (end_of r end));
}

-- the surfaces at a point
abbrev pub primary_surface : Runway → Point → Surface
primary_surface r x = primary (primary_of r) x

abbrev pub approach_surface : Runway → End → Point → Surface
approach_surface r end x = approach (approach_of r end) x

-- the transitional surfaces, which end upward at the cap
abbrev pub primary_transition_surface : Runway → Point → Cap → Surface
primary_transition_surface r x cap = beside_primary (primary_of r) x cap

abbrev pub approach_transition_surface : Runway → End → Point → Cap → Surface
approach_transition_surface r end x cap = beside_approach (approach_of r end) x cap

-- the excess of a top over each surface, where it is exceeded
unfoldable pub primary_excess : Runway → Point → ℤ → Option ℕ
primary_excess r x top = excess_over_primary (primary_of r) x top

unfoldable pub approach_excess : Runway → End → Point → ℤ → Option ℕ
approach_excess r end x top = excess_over_approach (approach_of r end) x top

unfoldable pub primary_transition_excess : Runway → Point → Cap → ℤ → Option ℕ
primary_transition_excess r x cap top = excess_beside_primary (primary_of r) x cap top

unfoldable pub approach_transition_excess : Runway → End → Point → Cap → ℤ → Option ℕ
approach_transition_excess r end x cap top = excess_beside_approach (approach_of r end) x cap top

-- all six excesses
pub record IsStripExcesses (r : Runway) (x : Point) (top : ℤ) (cap : Cap) (e : StripExcesses) : Type 0 where
  pub primary : e.primary ≡ primary_excess r x top
  pub approach1 : e.approach1 ≡ approach_excess r One x top
  pub approach2 : e.approach2 ≡ approach_excess r Two x top
  pub beside_primary : e.beside_primary ≡ primary_transition_excess r x cap top
  pub beside_approach1 : e.beside_approach1 ≡ approach_transition_excess r One x cap top
  pub beside_approach2 : e.beside_approach2 ≡ approach_transition_excess r Two x cap top
