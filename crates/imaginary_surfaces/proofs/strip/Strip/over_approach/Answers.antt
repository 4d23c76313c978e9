use Rattle.std.proofs.Common.{FitsSigned, w64, to_z-of_z, subst}
use Rattle.grid_exact.specs.Excess.{IsExcess}
use Rattle.grid_exact.specs.Lines.{Offset}
use Rattle.imaginary_surfaces.specs.Approaches.{Approach, approach_at}
use Rattle.imaginary_surfaces.specs.Shapes.{approach_shape}
use Rattle.imaginary_surfaces.specs.Strips.{approach_of, approach_surface}
use Rattle.imaginary_surfaces.proofs.SurfaceFacts.{approach_listed}
use Rattle.imaginary_surfaces.proofs.strip.Strip.over_approach.Goals as goal
use Rattle.imaginary_surfaces.proofs.strip.Strip.over_approach.Goals.{After-excess}

exact : (c : After-excess) → IsExcess (approach_surface c.args.self.now c.args.end c.args.x.now) c.args.top c.excess.result
exact c =
    let ft : FitsSigned w64 c.args.top = c.ranges.top in
    let h : IsExcess (approach_at (approach_shape c.approach.result.now) c.args.at.now) c.args.top c.excess.result = simp to_z-of_z at c.excess.ensures.exact in
    subst (λ (o : Offset). IsExcess (approach_at (approach_of c.args.self.now c.args.end) o) c.args.top c.excess.result) c.requires.at
    (subst (λ (a : Approach). IsExcess (approach_at a c.args.at.now) c.args.top c.excess.result) c.approach.ensures.shape h)

pub returns-clause-exact : goal.returns-clause-exact
returns-clause-exact c = exact c

pub returns-clause-value : goal.returns-clause-value
returns-clause-value c = approach_listed c.args.self.now c.args.end c.args.x.now c.args.top c.excess.result c.excess.ensures.size (exact c)
