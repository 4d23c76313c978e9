use Rattle.std.proofs.Common.{FitsSigned, w64, to_z-of_z, arith}
use Rattle.std.proofs.lemmas.Int.{ints}
use Rattle.grid_exact.specs.Excess.{IsExcess, root_surface}
use Rattle.grid_exact.specs.Level.{Reaches}
use Rattle.imaginary_surfaces.specs.Shapes.{incline_of, primary_shape}
use Rattle.imaginary_surfaces.specs.Transitions.{ReachesBesidePrimary, incline_beside_primary}
use Rattle.imaginary_surfaces.proofs.TransitionFacts.{same_incline, transition_up_to}
use Rattle.imaginary_surfaces.proofs.primary.PrimarySurface.excess_beside.Goals as goal

pub returns-in-Level-clause-exact : goal.returns-in-Level-clause-exact
returns-in-Level-clause-exact c =
    let p = primary_shape c.args.self.now in
    let o = c.args.at.now in
    let s = c.slope_beside.result in
    let is = c.slope_beside.ensures in
    let i = incline_beside_primary p o c.args.x.now in
    let l = c.in-Level.limit in
    let ft : FitsSigned w64 c.args.top = c.ranges.top in
    let fl : FitsSigned w64 l = omega (arith, ints) in
    let h : IsExcess (root_surface (Reaches s.a s.k s.c s.n l) s.a s.k s.c s.n) c.args.top c.excess_up_to.result = simp to_z-of_z at c.excess_up_to.ensures.exact in
    rw c.in-Level.is (transition_up_to (ReachesBesidePrimary p o) ⊥ i (incline_of s) l c.args.top c.excess_up_to.result (same_incline s.a i.left s.k i.factor s.c i.shift s.n i.square is.left is.factor is.shift is.square)
    (c.reaches_beside.ensures.0 c.if-not-reaches_beside.false) h)
