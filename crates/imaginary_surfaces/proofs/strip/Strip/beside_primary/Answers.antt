use Rattle.std.proofs.Common.{◌≡◌, FitsSigned, w64, to_z-of_z, ap, subst, ◌∙◌}
use Rattle.grid_exact.specs.Excess.{IsExcess}
use Rattle.grid_exact.specs.Lines.{Offset}
use Rattle.imaginary_surfaces.specs.Primaries.{Primary}
use Rattle.imaginary_surfaces.specs.Shapes.{primary_shape}
use Rattle.imaginary_surfaces.specs.Strips.{primary_of, primary_transition_surface}
use Rattle.imaginary_surfaces.specs.Transitions.{beside_primary_at}
use Rattle.imaginary_surfaces.proofs.TransitionFacts.{primary_transition_listed}
use Rattle.imaginary_surfaces.proofs.strip.Strip.beside_primary.Goals as goal
use Rattle.imaginary_surfaces.proofs.strip.Strip.beside_primary.Goals.{After-excess_beside}

exact : (c : After-excess_beside) → IsExcess (primary_transition_surface c.args.self.now c.args.x.now c.args.cap.now) c.args.top c.excess_beside.result
exact c =
    let r = c.args.self.now in
    let x = c.args.x.now in
    let cap = c.args.cap.now in
    let ft : FitsSigned w64 c.args.top = c.ranges.top in
    let h : IsExcess (beside_primary_at (primary_shape c.self.inside.primary) c.args.at.now x cap) c.args.top c.excess_beside.result = simp to_z-of_z at c.excess_beside.ensures.exact in
    let e : primary_shape c.self.inside.primary ≡ primary_of r = c.self.invariant.primary_is ∙ ap primary_of c.self.view_is in
    subst (λ (o : Offset). IsExcess (beside_primary_at (primary_of r) o x cap) c.args.top c.excess_beside.result) c.requires.at
    (subst (λ (p : Primary). IsExcess (beside_primary_at p c.args.at.now x cap) c.args.top c.excess_beside.result) e h)

pub returns-clause-exact : goal.returns-clause-exact
returns-clause-exact c = exact c

pub returns-clause-value : goal.returns-clause-value
returns-clause-value c = primary_transition_listed c.args.self.now c.args.x.now c.args.cap.now c.args.top c.excess_beside.result c.excess_beside.ensures.size (exact c)
