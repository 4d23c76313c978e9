use Rattle.std.proofs.Common.{◌≡◌, ◌∙◌, ◌≤◌, ◌^◌, ℕ, ℤ, pos, ◌+ℤ◌, unsigned_abs, FitsSigned, w64, to_z, of_z, to_z-of_z, ap, arith, refl}
use Rattle.std.proofs.lemmas.Int.{ints}
use Rattle.horizontal_hull.specs.declared.sizes.TheConstants.{CONICAL_RISE}
use Rattle.horizontal_hull.proofs.Conical.{rise_conical}
use Rattle.horizontal_hull.proofs.hull.Hull.level_at.Goals as goal

-- the level as the code computes it
raised : (level from : ℤ) (rise : ℕ) → unsigned_abs level ≤ 2 ^ 18 → rise ≤ CONICAL_RISE → from ≡ pos rise → to_z w64 (of_z w64 (to_z w64 (of_z w64 level) +ℤ to_z w64 (of_z w64 from))) ≡ level +ℤ pos rise
raised level from rise s b e =
    let fl : FitsSigned w64 level = omega (arith, ints, s) in
    let fr : FitsSigned w64 (pos rise) = omega (arith, ints, b) in
    let fs : FitsSigned w64 (level +ℤ pos rise) = omega (arith, ints, s, b) in
    rw e (simp to_z-of_z refl)

pub returns-clause-least : goal.returns-clause-least
returns-clause-least c =
    let level = c.self.inside.level in
    let from : c.from.result ≡ pos c.args.rise = omega (arith, ints, c.from.ensures) in
    rise_conical c.args.self.now c.args.x.now c.args.rise _ (raised level c.from.result c.args.rise c.self.invariant.level_size c.requires.rise.bound from ∙ ap (λ d. d.level +ℤ pos c.args.rise) c.self.view_is) c.requires.rise
