-- The areas of the surfaces of a heliport: the least whole boxes that contain their corners.
use Rattle.std.specs.Prelude.{ℤ, pos, ◌*ℤ◌, ◌≡◌, None, List, [], ◌∷◌}
use Rattle.grid_exact.specs.Area.{Has}
use Rattle.grid_exact.specs.declared.area.Area.{Area}
use Rattle.grid_exact.specs.declared.point.Point.{Point}
use Rattle.outline_boxes.specs.Boxes.{IsLeastBox}
use Rattle.outline_boxes.specs.Rectangles.{Rectangle, HasRectangle, HasRectangleWithin}
use Rattle.outline_boxes.specs.Trapezoids.{Trapezoid, HasTrapezoid}
use Rattle.airfields.specs.declared.airfield.Heliport.{Heliport}
use Rattle.heliport_surfaces.specs.declared.areas.PadAreas.{PadAreas}
use Rattle.heliport_surfaces.specs.declared.parts.PadEnd.TheVariants.{One, Two}
use Rattle.heliport_surfaces.specs.declared.parts.Beside.TheVariants.{Primary, ApproachOne, ApproachTwo}
use Rattle.heliport_surfaces.specs.declared.rules.TheConstants.{APPROACH_LENGTH, APPROACH_WIDTH, NOTICE_RANGE, SIDE_SCALE, TRANSITION_REACH}
use Rattle.heliport_surfaces.specs.Landings.{Landing}
use Rattle.heliport_surfaces.specs.Approaches.{Approach}
use Rattle.heliport_surfaces.specs.Pads.{landing_of, approach_of, pad_primary, pad_approach, pad_transition, pad_notice}
use Rattle.heliport_surfaces.specs.Pads.{pad_primary_excess, pad_approach_excess, pad_transition_excess, pad_notice_excess}

-- the primary surface extends half its width to each side of its axis: 77.23(a)
abbrev pub landing_outline : Landing → Rectangle
landing_outline l = record { line = l.line; scale = pos 2; half = l.width }

-- an approach surface extends half the primary width to each side at its inner end, and 250 feet at its outer end: 77.23(b). In 80,000ths
-- of a tenth of a foot, half a width is 40,000 times the width
abbrev pub approach_outline : Approach → Trapezoid
approach_outline a = record {
  line = a.line;
  scale = SIDE_SCALE;
  near = APPROACH_LENGTH *ℤ a.width;
  far = APPROACH_LENGTH *ℤ APPROACH_WIDTH;
  length = APPROACH_LENGTH;
}

-- the transitional surfaces extend 250 feet to each side of the axis: 77.23(c)
abbrev pub landing_side_outline : Landing → Rectangle
landing_side_outline l = record { line = l.line; scale = pos 1; half = TRANSITION_REACH }

abbrev pub approach_side_outline : Approach → Trapezoid
approach_side_outline a = record { line = a.line; scale = pos 1; near = TRANSITION_REACH; far = TRANSITION_REACH; length = APPROACH_LENGTH }

-- the slope of notice extends 5,000 feet from the area: 77.9(b)(3)
pub record IsPadAreas (h : Heliport) (a : PadAreas) : Type 0 where
  pub primary_least : IsLeastBox (HasRectangle (landing_outline (landing_of h))) a.primary
  pub approach1_least : IsLeastBox (HasTrapezoid (approach_outline (approach_of h One))) a.approach1
  pub approach2_least : IsLeastBox (HasTrapezoid (approach_outline (approach_of h Two))) a.approach2
  pub beside_primary_least : IsLeastBox (HasRectangle (landing_side_outline (landing_of h))) a.beside_primary
  pub beside_approach1_least : IsLeastBox (HasTrapezoid (approach_side_outline (approach_of h One))) a.beside_approach1
  pub beside_approach2_least : IsLeastBox (HasTrapezoid (approach_side_outline (approach_of h Two))) a.beside_approach2
  pub notice_least : IsLeastBox (HasRectangleWithin (landing_outline (landing_of h)) (pos NOTICE_RANGE)) a.notice

-- each area contains every point that its surface covers
pub record CoverPad (h : Heliport) (a : PadAreas) : Type 0 where
  pub primary_has : (x : Point) → (pad_primary h x).Covers → Has a.primary x
  pub approach1_has : (x : Point) → (pad_approach h One x).Covers → Has a.approach1 x
  pub approach2_has : (x : Point) → (pad_approach h Two x).Covers → Has a.approach2 x
  pub beside_primary_has : (x : Point) → (pad_transition h Primary x).Covers → Has a.beside_primary x
  pub beside_approach1_has : (x : Point) → (pad_transition h ApproachOne x).Covers → Has a.beside_approach1 x
  pub beside_approach2_has : (x : Point) → (pad_transition h ApproachTwo x).Covers → Has a.beside_approach2 x
  pub notice_has : (x : Point) → (pad_notice h x).Covers → Has a.notice x

-- so no surface is exceeded at a point outside its area
pub record SkipPad (h : Heliport) (x : Point) (top : ℤ) (a : PadAreas) : Type 0 where
  pub primary_none : ¬ Has a.primary x → pad_primary_excess h x top ≡ None
  pub approach1_none : ¬ Has a.approach1 x → pad_approach_excess h One x top ≡ None
  pub approach2_none : ¬ Has a.approach2 x → pad_approach_excess h Two x top ≡ None
  pub beside_primary_none : ¬ Has a.beside_primary x → pad_transition_excess h Primary x top ≡ None
  pub beside_approach1_none : ¬ Has a.beside_approach1 x → pad_transition_excess h ApproachOne x top ≡ None
  pub beside_approach2_none : ¬ Has a.beside_approach2 x → pad_transition_excess h ApproachTwo x top ≡ None
  pub notice_none : ¬ Has a.notice x → pad_notice_excess h x top ≡ None

-- the seven areas in order: the primary surface, the approach surfaces of the first end and of the second, the transitional surfaces
-- beside each of them, and the slope of notice
abbrev pub in_order : PadAreas → List Area
in_order a = a.primary ∷ a.approach1 ∷ a.approach2 ∷ a.beside_primary ∷ a.beside_approach1 ∷ a.beside_approach2 ∷ a.notice ∷ []

pub record ArePadAreas (h : Heliport) (areas : List Area) : Type 0 where
  pub seven : PadAreas
  pub ordered : areas ≡ in_order seven
  pub exact : IsPadAreas h seven
  pub covers : CoverPad h seven

-- no surface is exceeded at a point outside its one of these areas
pub record SkipsIn (h : Heliport) (x : Point) (top : ℤ) (areas : List Area) : Type 0 where
  pub seven : PadAreas
  pub ordered : areas ≡ in_order seven
  pub skips : SkipPad h x top seven
