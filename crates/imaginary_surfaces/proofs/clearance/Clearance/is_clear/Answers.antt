use Rattle.std.proofs.Common.{◌≡◌, ◌⊎◌, inl, inr, Bool, true, false, ◌||◌, refl, FitsSigned, w64, to_z-of_z, arith}
use Rattle.std.specs.Prelude.{IsTrue}
use Rattle.std.proofs.lemmas.Int.{ints}
use Rattle.imaginary_surfaces.specs.Clearances.{IsFarAhead, IsFarAside, rise_to}
use Rattle.imaginary_surfaces.proofs.clearance.Clearance.is_clear.Goals as goal

either : (a b : Bool) → IsTrue (a || b) → IsTrue a ⊎ IsTrue b
either true b h = inl refl
either false b h = inr h

pub returns : goal.returns
returns c = λ t.
    let s = c.args.self.now in
    let ft : FitsSigned w64 c.args.top = c.ranges.top in
    let fr : FitsSigned w64 c.rise_to-rise.result = omega (arith, ints) in
    let fa : FitsSigned w64 c.ahead-ahead.result = omega (arith, ints) in
    let fb : FitsSigned w64 c.short_aside.result = omega (arith, ints) in
    let er : c.rise_to-rise.result ≡ rise_to s c.args.top = simp to_z-of_z at c.rise_to-rise.ensures.value in
    let ahead : IsTrue c.is_far_ahead-far_ahead.result → IsFarAhead s c.rise_to-rise.result c.ahead-ahead.result = (simp to_z-of_z at c.is_far_ahead-far_ahead.ensures).0 in
    let aside : IsTrue c.is_far_aside-far_aside.result → IsFarAside s c.rise_to-rise.result c.ahead-ahead.result c.short_aside.result = (simp to_z-of_z at c.is_far_aside-far_aside.ensures).0 in
    elim (either c.is_far_ahead-far_ahead.result c.is_far_aside-far_aside.result t) [
      | inl a ↦ inl (rw (er, c.ahead-ahead.ensures.value) at (ahead a))
      | inr b ↦ inr (rw (er, c.ahead-ahead.ensures.value, c.short_aside.ensures.value) at (aside b))
    ]
