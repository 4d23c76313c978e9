-- The areas of the surfaces of a runway: the least whole boxes that contain their corners.
use Rattle.std.specs.Prelude.{ℤ, pos, ◌+ℤ◌, ◌*ℤ◌, ◌≡◌, ◌≢◌, None, List, [], ◌∷◌}
use Rattle.std.specs.Bool.{MatchBool}
use Rattle.grid_exact.specs.Area.{Has}
use Rattle.grid_exact.specs.declared.area.Area.{Area}
use Rattle.grid_exact.specs.declared.cap.Cap.{Cap}
use Rattle.grid_exact.specs.declared.cap.Cap.TheVariants.{Beyond}
use Rattle.grid_exact.specs.declared.point.Point.{Point}
use Rattle.outline_boxes.specs.Boxes.{Encloses, IsLeastBox}
use Rattle.outline_boxes.specs.Rectangles.{Rectangle, HasRectangle}
use Rattle.outline_boxes.specs.Trapezoids.{Trapezoid, HasTrapezoid, HasBoxAndTrapezoid}
use Rattle.airfields.specs.declared.runway.Runway.{Runway}
use Rattle.runway_classes.specs.declared.class.TheConstants.{WIDENING_SCALE}
use Rattle.runway_lines.specs.declared.end.End.TheVariants.{One, Two}
use Rattle.imaginary_surfaces.specs.declared.areas.StripAreas.{StripAreas}
use Rattle.imaginary_surfaces.specs.declared.measures.TheConstants.{HALF_WIDTH_SCALE, SCALED_REACH}
use Rattle.imaginary_surfaces.specs.Primaries.{Primary}
use Rattle.imaginary_surfaces.specs.Approaches.{Approach}
use Rattle.imaginary_surfaces.specs.Strips.{primary_of, approach_of, primary_surface, approach_surface, primary_transition_surface, approach_transition_surface}
use Rattle.imaginary_surfaces.specs.Strips.{primary_excess, approach_excess, primary_transition_excess, approach_transition_excess}

-- the primary surface extends half its width to each side of its line: 77.19(c)
abbrev pub primary_outline : Primary → Rectangle
primary_outline p = record { line = p.line; scale = pos 2; half = p.width }

-- an approach surface extends half of its inner and of its outer width to each side of its line: 77.19(d); its corners are moved out by a
-- margin, in fortieths, at right angles to the line
abbrev pub approach_outline : Approach → (margin : ℤ) → Trapezoid
approach_outline a margin = record {
  line = a.line;
  scale = WIDENING_SCALE;
  near = HALF_WIDTH_SCALE *ℤ a.width +ℤ margin;
  far = HALF_WIDTH_SCALE *ℤ a.class.outer +ℤ margin;
  length = a.class.length;
}

-- a transitional surface ends where the horizontal and conical surfaces do, within the box `hull`; beyond them, beside a precision
-- approach surface, it ends 5,000 feet from that surface's edge: 77.19(e)
abbrev pub HoldsBeside : Approach → (hull box : Area) → Type 0
HoldsBeside a hull box = MatchBool a.precision (HasBoxAndTrapezoid hull (approach_outline a SCALED_REACH) box) (Encloses box hull)

pub record IsStripAreas (r : Runway) (hull : Area) (a : StripAreas) : Type 0 where
  pub primary_least : IsLeastBox (HasRectangle (primary_outline (primary_of r))) a.primary
  pub approach1_least : IsLeastBox (HasTrapezoid (approach_outline (approach_of r One) (pos 0))) a.approach1
  pub approach2_least : IsLeastBox (HasTrapezoid (approach_outline (approach_of r Two) (pos 0))) a.approach2
  pub beside_primary_least : IsLeastBox (λ box. Encloses box hull) a.beside_primary
  pub beside_approach1_least : IsLeastBox (HoldsBeside (approach_of r One) hull) a.beside_approach1
  pub beside_approach2_least : IsLeastBox (HoldsBeside (approach_of r Two) hull) a.beside_approach2

-- the box `hull` contains the point wherever the horizontal or conical surface covers it
abbrev pub HullHas : (hull : Area) → Point → Cap → Type 0
HullHas hull x cap = cap ≢ Beyond → Has hull x

-- each area contains every point that its surface covers
pub record CoverStrip (r : Runway) (hull : Area) (a : StripAreas) : Type 0 where
  pub primary_has : (x : Point) → (primary_surface r x).Covers → Has a.primary x
  pub approach1_has : (x : Point) → (approach_surface r One x).Covers → Has a.approach1 x
  pub approach2_has : (x : Point) → (approach_surface r Two x).Covers → Has a.approach2 x
  pub beside_primary_has : (x : Point) (cap : Cap) → HullHas hull x cap → (primary_transition_surface r x cap).Covers → Has a.beside_primary x
  pub beside_approach1_has : (x : Point) (cap : Cap) → HullHas hull x cap → (approach_transition_surface r One x cap).Covers → Has a.beside_approach1 x
  pub beside_approach2_has : (x : Point) (cap : Cap) → HullHas hull x cap → (approach_transition_surface r Two x cap).Covers → Has a.beside_approach2 x

-- so no surface is exceeded at a point outside its area
pub record SkipStrip (r : Runway) (x : Point) (top : ℤ) (cap : Cap) (a : StripAreas) : Type 0 where
  pub primary_none : ¬ Has a.primary x → primary_excess r x top ≡ None
  pub approach1_none : ¬ Has a.approach1 x → approach_excess r One x top ≡ None
  pub approach2_none : ¬ Has a.approach2 x → approach_excess r Two x top ≡ None
  pub beside_primary_none : ¬ Has a.beside_primary x → primary_transition_excess r x cap top ≡ None
  pub beside_approach1_none : ¬ Has a.beside_approach1 x → approach_transition_excess r One x cap top ≡ None
  pub beside_approach2_none : ¬ Has a.beside_approach2 x → approach_transition_excess r Two x cap top ≡ None

-- the six areas in order: the primary surface, the approach surfaces of the first end and of the second, and the transitional surfaces
-- beside each of them
abbrev pub in_order : StripAreas → List Area
in_order a = a.primary ∷ a.approach1 ∷ a.approach2 ∷ a.beside_primary ∷ a.beside_approach1 ∷ a.beside_approach2 ∷ []

pub record AreStripAreas (r : Runway) (hull : Area) (areas : List Area) : Type 0 where
  pub six : StripAreas
  pub ordered : areas ≡ in_order six
  pub exact : IsStripAreas r hull six
  pub covers : CoverStrip r hull six

-- no surface is exceeded at a point outside its one of these areas
pub record SkipsIn (r : Runway) (x : Point) (top : ℤ) (cap : Cap) (areas : List Area) : Type 0 where
  pub six : StripAreas
  pub ordered : areas ≡ in_order six
  pub skips : SkipStrip r x top cap six
