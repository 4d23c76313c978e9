use Rattle.std.proofs.Common.{FitsSigned, w64, to_z-of_z, subst}
use Rattle.grid_exact.specs.Excess.{IsExcess}
use Rattle.grid_exact.specs.Lines.{Offset}
use Rattle.airfields.specs.declared.runway.Runway.{Runway}
use Rattle.airfields.specs.Runways.{IsProper}
use Rattle.imaginary_surfaces.specs.Approaches.{Approach, approach_at}
use Rattle.imaginary_surfaces.specs.Shapes.{approach_shape}
use Rattle.imaginary_surfaces.specs.Strips.{approach_of}
use Rattle.imaginary_surfaces.specs.Transitions.{beside_approach_at}
use Rattle.imaginary_surfaces.proofs.SurfaceFacts.{approach_listed}
use Rattle.imaginary_surfaces.proofs.TransitionFacts.{approach_transition_listed}
use Rattle.imaginary_surfaces.proofs.strip.Strip.excesses_at.Goals as goal

pub returns-clause-over : goal.returns-clause-over
returns-clause-over c =
    let r = c.args.self.now in
    let end = c.args.end in
    let top = c.args.top in
    let e = c.excesses.result.over in
    let ft : FitsSigned w64 top = c.ranges.top in
    let h : IsExcess (approach_at (approach_shape c.approach.result.now) c.args.at.now) top e = simp to_z-of_z at c.excesses.ensures.over in
    approach_listed r end c.args.x.now top e c.excesses.ensures.over_size
    (subst (λ (o : Offset). IsExcess (approach_at (approach_of r end) o) top e) c.requires.at
    (subst (λ (a : Approach). IsExcess (approach_at a c.args.at.now) top e) c.approach.ensures.shape h))

pub returns-clause-beside : goal.returns-clause-beside
returns-clause-beside c =
    let r = c.args.self.now in
    let end = c.args.end in
    let top = c.args.top in
    let cap = c.args.cap.now in
    let e = c.excesses.result.beside in
    let ft : FitsSigned w64 top = c.ranges.top in
    let h : IsExcess (beside_approach_at (approach_shape c.approach.result.now) c.args.at.now cap) top e = simp to_z-of_z at c.excesses.ensures.beside in
    approach_transition_listed r end c.args.x.now cap top e c.excesses.ensures.beside_size
    (subst (λ (o : Offset). IsExcess (beside_approach_at (approach_of r end) o cap) top e) c.requires.at
    (subst (λ (a : Approach). IsExcess (beside_approach_at a c.args.at.now cap) top e) c.approach.ensures.shape h))

pub returns-clause-proper : goal.returns-clause-proper
returns-clause-proper c = subst (λ (r : Runway). IsProper r) c.self.view_is c.self.invariant.proper
