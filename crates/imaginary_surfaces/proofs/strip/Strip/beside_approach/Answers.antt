use Rattle.std.proofs.Common.{FitsSigned, w64, to_z-of_z, subst}
use Rattle.grid_exact.specs.Excess.{IsExcess}
use Rattle.grid_exact.specs.Lines.{Offset}
use Rattle.imaginary_surfaces.specs.Approaches.{Approach}
use Rattle.imaginary_surfaces.specs.Shapes.{approach_shape}
use Rattle.imaginary_surfaces.specs.Strips.{approach_of, approach_transition_surface}
use Rattle.imaginary_surfaces.specs.Transitions.{beside_approach_at}
use Rattle.imaginary_surfaces.proofs.TransitionFacts.{approach_transition_listed}
use Rattle.imaginary_surfaces.proofs.strip.Strip.beside_approach.Goals as goal
use Rattle.imaginary_surfaces.proofs.strip.Strip.beside_approach.Goals.{After-excess_beside}

exact : (c : After-excess_beside) → IsExcess (approach_transition_surface c.args.self.now c.args.end c.args.x.now c.args.cap.now) c.args.top c.excess_beside.result
exact c =
    let cap = c.args.cap.now in
    let ft : FitsSigned w64 c.args.top = c.ranges.top in
    let h : IsExcess (beside_approach_at (approach_shape c.approach.result.now) c.args.at.now cap) c.args.top c.excess_beside.result = simp to_z-of_z at c.excess_beside.ensures.exact in
    subst (λ (o : Offset). IsExcess (beside_approach_at (approach_of c.args.self.now c.args.end) o cap) c.args.top c.excess_beside.result) c.requires.at
    (subst (λ (a : Approach). IsExcess (beside_approach_at a c.args.at.now cap) c.args.top c.excess_beside.result) c.approach.ensures.shape h)

pub returns-clause-exact : goal.returns-clause-exact
returns-clause-exact c = exact c

pub returns-clause-value : goal.returns-clause-value
returns-clause-value c = approach_transition_listed c.args.self.now c.args.end c.args.x.now c.args.cap.now c.args.top c.excess_beside.result c.excess_beside.ensures.size (exact c)
