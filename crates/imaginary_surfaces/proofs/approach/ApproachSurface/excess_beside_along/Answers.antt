use Rattle.std.proofs.Common.{FitsSigned, w64, to_z-of_z, arith}
use Rattle.std.specs.Prelude.{⊤}
use Rattle.std.proofs.lemmas.Int.{ints}
use Rattle.grid_exact.specs.Excess.{IsExcess, root_surface}
use Rattle.grid_exact.specs.Level.{Reaches}
use Rattle.imaginary_surfaces.specs.Shapes.{approach_shape, incline_of}
use Rattle.imaginary_surfaces.specs.Transitions.{GoesBeyond, ReachesBesideApproach, incline_beside_approach}
use Rattle.imaginary_surfaces.proofs.TransitionFacts.{same_incline, transition_beyond, transition_up_to}
use Rattle.imaginary_surfaces.proofs.approach.ApproachSurface.excess_beside_along.Goals as goal

pub returns-in-Level-clause-exact : goal.returns-in-Level-clause-exact
returns-in-Level-clause-exact c =
    let a = approach_shape c.args.self.now in
    let o = c.args.at.now in
    let s = c.slope_beside.result in
    let is = c.slope_beside.ensures in
    let i = incline_beside_approach a o in
    let l = c.in-Level.limit in
    let ft : FitsSigned w64 c.args.top = c.ranges.top in
    let fl : FitsSigned w64 l = omega (arith, ints) in
    let h : IsExcess (root_surface (Reaches s.a s.k s.c s.n l) s.a s.k s.c s.n) c.args.top c.excess_up_to.result = simp to_z-of_z at c.excess_up_to.ensures.exact in
    rw c.in-Level.is (transition_up_to (ReachesBesideApproach a o) (GoesBeyond a o) i (incline_of s) l c.args.top c.excess_up_to.result (same_incline s.a i.left s.k i.factor s.c i.shift s.n i.square is.left is.factor is.shift is.square)
    (c.reaches_beside.ensures.0 c.if-not-reaches_beside.false) h)

pub returns-else-not-goes_beyond-clause-exact : goal.returns-else-not-goes_beyond-clause-exact
returns-else-not-goes_beyond-clause-exact c =
    let a = approach_shape c.args.self.now in
    let o = c.args.at.now in
    let s = c.slope_beside-in-Beyond.result in
    let is = c.slope_beside-in-Beyond.ensures in
    let i = incline_beside_approach a o in
    let ft : FitsSigned w64 c.args.top = c.ranges.top in
    let h : IsExcess (root_surface ⊤ s.a s.k s.c s.n) c.args.top c.excess_over.result = simp to_z-of_z at c.excess_over.ensures.excess in
    rw c.in-Beyond.is (transition_beyond (ReachesBesideApproach a o) (GoesBeyond a o) i (incline_of s) c.args.top c.excess_over.result (same_incline s.a i.left s.k i.factor s.c i.shift s.n i.square is.left is.factor is.shift is.square)
    (c.reaches_beside.ensures.0 c.if-not-reaches_beside.false) (c.goes_beyond.ensures.0 c.if-not-goes_beyond.false) h)
