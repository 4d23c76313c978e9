use Rattle.std.proofs.Common.{◌≡◌, ◌*ℤ◌, ◌-ℤ◌, ◌≤ℤ◌, FitsSigned, w64, to_z-of_z, arith, false, int_lt}
use Rattle.std.specs.Prelude.{⊤}
use Rattle.std.proofs.lemmas.Int.{ints}
use Rattle.grid_exact.specs.Excess.{IsExcess, root_surface}
use Rattle.grid_exact.specs.Level.{Reaches}
use Rattle.grid_exact.specs.Root.{BelowRoot}
use Rattle.imaginary_surfaces.proofs.SurfaceFacts.{limit_reached, root_for}
use Rattle.imaginary_surfaces.proofs.slope_end.excess_up_to.Goals as goal
use Rattle.imaginary_surfaces.proofs.slope_end.excess_up_to.Goals.{else-limit-top-via-then-limit-top+else-not-is_up_to, else-limit-top-via-else-limit-top}

-- where the top is above the slope, so is the limit, or at it
limited : (c : goal.After-excess_over) → BelowRoot c.args.slope.now.a (c.args.slope.now.k *ℤ c.args.top -ℤ c.args.slope.now.c) c.args.slope.now.n →
    Reaches c.args.slope.now.a c.args.slope.now.k c.args.slope.now.c c.args.slope.now.n c.args.limit
limited c b =
    let s = c.args.slope.now in
    let ft : FitsSigned w64 c.args.top = c.ranges.top in
    let fl : FitsSigned w64 c.args.limit = c.ranges.limit in
    elim c.else-limit-top.branch [
      | else-limit-top-via-then-limit-top+else-not-is_up_to w ↦ simp to_z-of_z at (w.is_up_to.ensures.0 w.if-not-is_up_to.false)
      | else-limit-top-via-else-limit-top w ↦ (let e : int_lt c.args.limit c.args.top ≡ false = simp to_z-of_z at w.if-limit-top.false in
          let h : c.args.top ≤ℤ c.args.limit = omega (arith, ints, e) in
          limit_reached s.a s.k s.c s.n c.args.top c.args.limit s.sound.rises h b)
    ]

pub returns-clause-exact : goal.returns-clause-exact
returns-clause-exact c =
    let s = c.args.slope.now in
    let ft : FitsSigned w64 c.args.top = c.ranges.top in
    let h : IsExcess (root_surface ⊤ s.a s.k s.c s.n) c.args.top c.excess_over.result = simp to_z-of_z at c.excess_over.ensures.excess in
    root_for ⊤ (Reaches s.a s.k s.c s.n c.args.limit) s.a s.k s.c s.n c.args.top c.excess_over.result (λ t b. limited c b) (λ r. tt) h
