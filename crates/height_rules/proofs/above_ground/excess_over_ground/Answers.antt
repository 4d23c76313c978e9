use Rattle.std.proofs.Common.{◌≡◌, ◌+ℤ◌, ℤ, ap, arith, FitsSigned, w64, to_z-of_z, subst}
use Rattle.std.specs.Prelude.{⊤}
use Rattle.std.proofs.lemmas.Int.{ints}
use Rattle.grid_exact.specs.Excess.{IsExcess, flat_surface}
use Rattle.height_rules.proofs.above_ground.excess_over_ground.Goals as goal

pub returns-clause-exact : goal.returns-clause-exact
returns-clause-exact c =
    let ground = c.filing.inside.ground in
    let limits = c.filing.invariant in
    let fg : FitsSigned w64 ground = omega (arith, ints, limits.terrain_least, limits.terrain_most) in
    let fh : FitsSigned w64 c.args.height = c.ranges.height in
    let ft : FitsSigned w64 c.args.top = c.ranges.top in
    let fs : FitsSigned w64 (ground +ℤ c.args.height) = omega (arith, ints, limits.terrain_least, limits.terrain_most, c.requires.least, c.requires.most) in
    let e : ground ≡ c.args.filing.now.terrain = ap (λ s. s.terrain) c.filing.view_is in
    let h : IsExcess (flat_surface ⊤ (ground +ℤ c.args.height)) c.args.top c.flat_excess.result = simp to_z-of_z at c.flat_excess.ensures.excess in
    subst (λ (g : ℤ). IsExcess (flat_surface ⊤ (g +ℤ c.args.height)) c.args.top c.flat_excess.result) e h
