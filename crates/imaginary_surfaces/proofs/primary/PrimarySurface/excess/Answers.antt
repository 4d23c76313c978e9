use Rattle.std.proofs.Common.{ℤ, FitsSigned, w64, to_z-of_z, arith, subst}
use Rattle.std.specs.Prelude.{⊤}
use Rattle.std.proofs.lemmas.Int.{ints}
use Rattle.grid_exact.specs.Excess.{IsExcess, flat_surface}
use Rattle.grid_exact.proofs.ExcessLemmas.{IsExcess-covered}
use Rattle.imaginary_surfaces.specs.Primaries.{primary_at}
use Rattle.imaginary_surfaces.specs.Shapes.{primary_shape}
use Rattle.imaginary_surfaces.proofs.primary.PrimarySurface.excess.Goals as goal

pub returns-clause-exact : goal.returns-clause-exact
returns-clause-exact c =
    let fe : FitsSigned w64 c.elevation.result = omega (arith, ints, c.elevation.ensures.level) in
    let ft : FitsSigned w64 c.args.top = c.ranges.top in
    let h : IsExcess (flat_surface ⊤ c.elevation.result) c.args.top c.flat_excess.result = simp to_z-of_z at c.flat_excess.ensures.excess in
    IsExcess-covered (primary_at (primary_shape c.args.self.now) c.args.at.now c.args.x.now) c.args.top c.flat_excess.result (c.covers.ensures.0 c.if-not-covers.false)
    (subst (λ (z : ℤ). IsExcess (flat_surface ⊤ z) c.args.top c.flat_excess.result) c.elevation.ensures.value h)
