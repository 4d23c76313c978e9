-- The class of a runway over what its ends have and are planned for.
use Rattle.std.proofs.Common.{◌≡◌, sym, ◌∙◌, inl, inr}
use Rattle.runway_classes.specs.declared.ApproachKind.{ApproachKind}
use Rattle.runway_classes.specs.declared.class.RunwayClass.{RunwayClass}
use Rattle.runway_classes.specs.Class.{IsPrecisionOnUtility, runway_class}
use Rattle.airfields.specs.declared.runway.Runway.{Runway}
use Rattle.airfields.specs.Runways.{IsProper, effective}
use Rattle.runway_lines.specs.Ends.{class_of}

-- no runway that keeps its limits is without a class
pub not_refused : (r : Runway) (a b : ApproachKind) → IsProper r → a ≡ effective r.end1 → b ≡ effective r.end2 → IsPrecisionOnUtility r.utility a b → ⊥
not_refused r a b p e f (u, inl h) = p.no_precision1 u (sym e ∙ h)
not_refused r a b p e f (u, inr h) = p.no_precision2 u (sym f ∙ h)

pub class_is : (r : Runway) (a b : ApproachKind) (c : RunwayClass) → a ≡ effective r.end1 → b ≡ effective r.end2 → c ≡ runway_class r.utility a b → c ≡ class_of r
class_is r a b c e f h = h ∙ (λ i. runway_class r.utility (e i) (f i))
