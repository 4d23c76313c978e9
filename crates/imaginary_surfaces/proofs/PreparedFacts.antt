-- What is prepared of a runway, from its prepared parts.
use Rattle.std.proofs.Common.{◌≡◌, ap, refl, sym, subst, ◌∙◌}
use Rattle.airfields.specs.declared.runway.Runway.{Runway}
use Rattle.runway_lines.specs.declared.end.End.{End}
use Rattle.runway_lines.specs.declared.end.End.TheVariants.{One, Two}
use Rattle.imaginary_surfaces.specs.Approaches.{Approach}
use Rattle.imaginary_surfaces.specs.Clearances.{IsClearance}
use Rattle.imaginary_surfaces.specs.Primaries.{Primary}
use Rattle.imaginary_surfaces.specs.Strips.{primary_of, approach_of}
use Rattle.imaginary_surfaces.specs.declared.clearance.Clearance.{Clearance}

widths : (r : Runway) (end : End) → (approach_of r end).width ≡ (primary_of r).width
unfolding primary_of approach_of
widths r end = refl

pub same_width : (r : Runway) (end : End) (p : Primary) (a : Approach) → p ≡ primary_of r → a ≡ approach_of r end → a.width ≡ p.width
same_width r end p a e f = ap (λ (z : Approach). z.width) f ∙ (widths r end ∙ sym (ap (λ (z : Primary). z.width) e))

pub of_runway : (r : Runway) (p : Primary) (a b : Approach) (c : Clearance) → p ≡ primary_of r → a ≡ approach_of r One → b ≡ approach_of r Two → IsClearance p a b c →
    IsClearance (primary_of r) (approach_of r One) (approach_of r Two) c
of_runway r p a b c e f g h =
    subst (λ (z : Primary). IsClearance z (approach_of r One) (approach_of r Two) c) e
    (subst (λ (z : Approach). IsClearance p z (approach_of r Two) c) f (subst (λ (z : Approach). IsClearance p a z c) g h))
