use Rattle.std.proofs.Common.{◌≡◌, FitsSigned, w64, to_z-of_z, ap, subst, ◌∙◌}
use Rattle.grid_exact.specs.Excess.{IsExcess}
use Rattle.grid_exact.specs.Lines.{Offset}
use Rattle.imaginary_surfaces.specs.Primaries.{Primary, primary_at}
use Rattle.imaginary_surfaces.specs.Shapes.{primary_shape}
use Rattle.imaginary_surfaces.specs.Strips.{primary_of, primary_surface}
use Rattle.imaginary_surfaces.proofs.SurfaceFacts.{primary_listed}
use Rattle.imaginary_surfaces.proofs.strip.Strip.over_primary.Goals as goal
use Rattle.imaginary_surfaces.proofs.strip.Strip.over_primary.Goals.{After-excess}

exact : (c : After-excess) → IsExcess (primary_surface c.args.self.now c.args.x.now) c.args.top c.excess.result
exact c =
    let r = c.args.self.now in
    let x = c.args.x.now in
    let ft : FitsSigned w64 c.args.top = c.ranges.top in
    let h : IsExcess (primary_at (primary_shape c.self.inside.primary) c.args.at.now x) c.args.top c.excess.result = simp to_z-of_z at c.excess.ensures.exact in
    let e : primary_shape c.self.inside.primary ≡ primary_of r = c.self.invariant.primary_is ∙ ap primary_of c.self.view_is in
    subst (λ (o : Offset). IsExcess (primary_at (primary_of r) o x) c.args.top c.excess.result) c.requires.at
    (subst (λ (p : Primary). IsExcess (primary_at p c.args.at.now x) c.args.top c.excess.result) e h)

pub returns-clause-exact : goal.returns-clause-exact
returns-clause-exact c = exact c

pub returns-clause-value : goal.returns-clause-value
returns-clause-value c = primary_listed c.args.self.now c.args.x.now c.args.top c.excess.result c.excess.ensures.size (exact c)
