use Rattle.std.proofs.Common.{◌≡◌, ℕ, ◌*◌, ◌≤◌, arith, FitsSigned, w64, to_z-of_z}
use Rattle.std.proofs.lemmas.Int.{ints}
use Rattle.grid_exact.specs.declared.point.Point.{Point}
use Rattle.horizontal_hull.specs.declared.edge.Edge.TheVariants.{Closed}
use Rattle.horizontal_hull.specs.declared.sizes.TheConstants.{CONICAL_RISE, CONICAL_RUN, CONICAL_SLOPE}
use Rattle.horizontal_hull.specs.Arcs.{Dome}
use Rattle.horizontal_hull.specs.Rises.{IsRise}
use Rattle.horizontal_hull.specs.Within.{ConicalCovers}
use Rattle.horizontal_hull.proofs.Grows.{Within_grows}
use Rattle.horizontal_hull.proofs.hull.Hull.standing.Goals as goal

covers : (d : Dome) (x : Point) (rise : ℕ) → (rise ≡ 0 → ⊥) → IsRise d.arcs x rise → ConicalCovers d x
covers d x rise n h = record {
  within_outer = Within_grows Closed d.arcs x (CONICAL_SLOPE * rise) CONICAL_RUN (in_run rise h.bound) h.reaches;
  not_inner = λ w. n (none rise (h.least 0 w));
}
  where
    in_run : (rise : ℕ) → rise ≤ CONICAL_RISE → CONICAL_SLOPE * rise ≤ CONICAL_RUN
    in_run rise h = omega (arith, h)

    none : (rise : ℕ) → rise ≤ 0 → rise ≡ 0
    none rise h = omega (arith, h)

pub returns : goal.returns
returns c =
    let fits : FitsSigned w64 c.level_at.result = omega (arith, ints, c.level_at.ensures.size) in
    let n : c.in-Some.rise ≡ 0 → ⊥ = λ e. omega (arith, e, c.if-rise-eq0.false) in
    simp to_z-of_z (covers c.args.self.now c.args.x.now c.in-Some.rise n (rw c.in-Some.is at c.rise.ensures), c.level_at.ensures.least)
