use Rattle.std.proofs.Common.{◌≡◌, ◌-ℤ◌, neg_ℤ, unsigned_abs, FitsSigned, w64, to_z-of_z, arith, sym, subst}
use Rattle.std.proofs.lemmas.Int.{ints}
use Rattle.grid_exact.specs.declared.area.Area.{Area}
use Rattle.grid_exact.proofs.IntLaws.{abs_neg}
use Rattle.outline_boxes.specs.Shapes.{trapezoid_shape}
use Rattle.outline_boxes.specs.Reaches.{IsReach}
use Rattle.outline_boxes.proofs.BoxFacts.{IsTightTrapezoid, trapezoid_has, trapezoid_least}
use Rattle.outline_boxes.proofs.trapezoid.TrapezoidOutline.area.Goals as goal
use Rattle.outline_boxes.proofs.trapezoid.TrapezoidOutline.area.Goals.{After-past-2}

pub reach-requires : goal.reach-requires
reach-requires c =
    let s = c.args.self.now in
    let fx : FitsSigned w64 s.axis.way.x = omega (arith, ints, s.axis.way.short) in
    let fy : FitsSigned w64 s.axis.way.y = omega (arith, ints, s.axis.way.short) in
    let fo : FitsSigned w64 c.opposite.result = omega (arith, ints) in
    let o : c.opposite.result ≡ neg_ℤ s.axis.way.x = simp to_z-of_z at c.opposite.ensures.value in
    let a : c.unsigned_abs-along_y.result ≡ unsigned_abs s.axis.way.y = simp to_z-of_z at c.unsigned_abs-along_y.ensures.value in
    record { vector = simp to_z-of_z (rw (o, abs_neg, a, c.edges-edges.ensures.square_is) (omega arith)) }

pub reach-requires-2 : goal.reach-requires-2
reach-requires-2 c =
    let s = c.args.self.now in
    let fx : FitsSigned w64 s.axis.way.x = omega (arith, ints, s.axis.way.short) in
    let fy : FitsSigned w64 s.axis.way.y = omega (arith, ints, s.axis.way.short) in
    let fo : FitsSigned w64 c.opposite-2.result = omega (arith, ints) in
    let o : c.opposite-2.result ≡ neg_ℤ s.axis.way.y = simp to_z-of_z at c.opposite-2.ensures.value in
    let a : c.unsigned_abs-along_x.result ≡ unsigned_abs s.axis.way.x = simp to_z-of_z at c.unsigned_abs-along_x.ensures.value in
    record { vector = simp to_z-of_z (rw (o, abs_neg, a, c.edges-edges.ensures.square_is) (omega arith)) }

pub reach-requires-3 : goal.reach-requires-3
reach-requires-3 c =
    let s = c.args.self.now in
    let fx : FitsSigned w64 s.axis.way.x = omega (arith, ints, s.axis.way.short) in
    let fy : FitsSigned w64 s.axis.way.y = omega (arith, ints, s.axis.way.short) in
    let a : c.unsigned_abs-along_y.result ≡ unsigned_abs s.axis.way.y = simp to_z-of_z at c.unsigned_abs-along_y.ensures.value in
    record { vector = simp to_z-of_z (rw (a, c.edges-edges.ensures.square_is) (omega arith)) }

-- the four sides of the box
abbrev side_of : (c : After-past-2) → Area
side_of c = record { x0 = c.short_of.result; y0 = c.short_of-2.result; x1 = c.past.result; y1 = c.past-2.result }

tight : (c : After-past-2) → IsTightTrapezoid c.edges-edges.result (trapezoid_shape c.args.self.now).line (side_of c)
tight c =
    let s = c.args.self.now in
    let e = c.edges-edges.result in
    let fx : FitsSigned w64 s.axis.way.x = omega (arith, ints, s.axis.way.short) in
    let fy : FitsSigned w64 s.axis.way.y = omega (arith, ints, s.axis.way.short) in
    let gx : FitsSigned w64 s.axis.from.x = omega (arith, ints, s.axis.from.near) in
    let gy : FitsSigned w64 s.axis.from.y = omega (arith, ints, s.axis.from.near) in
    let f1 : FitsSigned w64 c.opposite.result = omega (arith, ints) in
    let f2 : FitsSigned w64 c.opposite-2.result = omega (arith, ints) in
    let f3 : FitsSigned w64 c.reach.result = omega (arith, ints) in
    let f4 : FitsSigned w64 c.reach-2.result = omega (arith, ints) in
    let f5 : FitsSigned w64 c.reach-3.result = omega (arith, ints) in
    let f6 : FitsSigned w64 c.reach-4.result = omega (arith, ints) in
    let ox : c.opposite.result ≡ neg_ℤ s.axis.way.x = simp to_z-of_z at c.opposite.ensures.value in
    let oy : c.opposite-2.result ≡ neg_ℤ s.axis.way.y = simp to_z-of_z at c.opposite-2.ensures.value in
    let ax : c.unsigned_abs-along_x.result ≡ unsigned_abs s.axis.way.x = simp to_z-of_z at c.unsigned_abs-along_x.ensures.value in
    let ay : c.unsigned_abs-along_y.result ≡ unsigned_abs s.axis.way.y = simp to_z-of_z at c.unsigned_abs-along_y.ensures.value in
    let w : s.axis.from.x -ℤ c.short_of.result ≡ c.reach.result = simp to_z-of_z at c.short_of.ensures.value in
    let v : s.axis.from.y -ℤ c.short_of-2.result ≡ c.reach-2.result = simp to_z-of_z at c.short_of-2.ensures.value in
    let x : c.past.result -ℤ s.axis.from.x ≡ c.reach-3.result = simp to_z-of_z at c.past.ensures.value in
    let y : c.past-2.result -ℤ s.axis.from.y ≡ c.reach-4.result = simp to_z-of_z at c.past-2.ensures.value in
    record {
      west = subst (λ z. IsReach e (neg_ℤ s.axis.way.x) (unsigned_abs s.axis.way.y) z) (sym w) (rw (ox, ay) at (simp to_z-of_z at c.reach.ensures.reach));
      south = subst (λ z. IsReach e (neg_ℤ s.axis.way.y) (unsigned_abs s.axis.way.x) z) (sym v) (rw (oy, ax) at (simp to_z-of_z at c.reach-2.ensures.reach));
      east = subst (λ z. IsReach e s.axis.way.x (unsigned_abs s.axis.way.y) z) (sym x) (rw ay at (simp to_z-of_z at c.reach-3.ensures.reach));
      north = subst (λ z. IsReach e s.axis.way.y (unsigned_abs s.axis.way.x) z) (sym y) (rw ax at (simp to_z-of_z at c.reach-4.ensures.reach));
    }

pub returns-clause-exact : goal.returns-clause-exact
returns-clause-exact c =
    let f1 : FitsSigned w64 c.short_of.result = omega (arith, ints) in
    let f2 : FitsSigned w64 c.short_of-2.result = omega (arith, ints) in
    let f3 : FitsSigned w64 c.past.result = omega (arith, ints) in
    let f4 : FitsSigned w64 c.past-2.result = omega (arith, ints) in
    simp to_z-of_z (trapezoid_least (trapezoid_shape c.args.self.now) c.edges-edges.result (side_of c) c.edges-edges.ensures (tight c))

pub returns-clause-has : goal.returns-clause-has
returns-clause-has c =
    let f1 : FitsSigned w64 c.short_of.result = omega (arith, ints) in
    let f2 : FitsSigned w64 c.short_of-2.result = omega (arith, ints) in
    let f3 : FitsSigned w64 c.past.result = omega (arith, ints) in
    let f4 : FitsSigned w64 c.past-2.result = omega (arith, ints) in
    simp to_z-of_z (trapezoid_has (trapezoid_shape c.args.self.now) c.edges-edges.result (side_of c) c.edges-edges.ensures c.args.self.now.sized.length_least (tight c))
