use Rattle.std.proofs.Common.{sym, subst}
use Rattle.imaginary_surfaces.specs.Approaches.{Approach}
use Rattle.imaginary_surfaces.specs.Transitions.{beside_approach}
use Rattle.imaginary_surfaces.proofs.strip.Strip.beside_area.Goals as goal

pub returns-clause-covers : goal.returns-clause-covers
returns-clause-covers c = λ x cap h k.
    c.area_beside.ensures.covers x cap h (subst (λ (a : Approach). (beside_approach a x cap).Covers) (sym c.approach.ensures.shape) k)
