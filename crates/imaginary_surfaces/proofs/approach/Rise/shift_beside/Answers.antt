use Rattle.std.proofs.Common.{◌≡◌, ◌*◌, pos, ◌*ℤ◌, unsigned_abs, FitsSigned, w64, to_z-of_z, arith}
use Rattle.std.specs.Int.{w128}
use Rattle.std.proofs.lemmas.Int.{ints}
use Rattle.imaginary_surfaces.proofs.TransitionFacts.{ShiftParts, shift_parts}
use Rattle.imaginary_surfaces.proofs.approach.Rise.shift_beside.Goals as goal
use Rattle.imaginary_surfaces.proofs.approach.Rise.shift_beside.Goals.{After-product-2}

first : (c : After-product-2) → (c.product.result ≡ pos 280 *ℤ c.args.self.now.slope *ℤ c.args.self.now.base) × (unsigned_abs c.product.result ≡ unsigned_abs (pos 280 *ℤ c.args.self.now.slope) * unsigned_abs c.args.self.now.base)
first c =
    let s = c.args.self.now in
    let fs : FitsSigned w64 s.slope = omega (arith, ints, s.rises.rises, s.rises.slope_most) in
    let fb : FitsSigned w64 s.base = omega (arith, ints, s.rises.base_size) in
    let fk : FitsSigned w64 (pos 280 *ℤ s.slope) = omega (arith, ints, s.rises.rises, s.rises.slope_most) in
    let fp : FitsSigned w128 c.product.result = omega (arith, ints) in
    (simp to_z-of_z at c.product.ensures.value, simp to_z-of_z at c.product.ensures.size)

second : (c : After-product-2) → (c.product-2.result ≡ pos 20 *ℤ c.args.self.now.slope *ℤ c.args.width) × (unsigned_abs c.product-2.result ≡ unsigned_abs (pos 20 *ℤ c.args.self.now.slope) * unsigned_abs c.args.width)
second c =
    let s = c.args.self.now in
    let fs : FitsSigned w64 s.slope = omega (arith, ints, s.rises.rises, s.rises.slope_most) in
    let fw : FitsSigned w64 c.args.width = c.ranges.width in
    let fk : FitsSigned w64 (pos 20 *ℤ s.slope) = omega (arith, ints, s.rises.rises, s.rises.slope_most) in
    let fp : FitsSigned w128 c.product-2.result = omega (arith, ints) in
    (simp to_z-of_z at c.product-2.ensures.value, simp to_z-of_z at c.product-2.ensures.size)

sized : (c : After-product-2) → ShiftParts c.args.self.now.slope c.product.result c.product-2.result
sized c = shift_parts c.args.self.now.slope c.args.self.now.base c.args.width c.product.result c.product-2.result c.args.self.now.rises c.requires.width (first c).1 (second c).1

pub minus-requires-clause-left : goal.minus-requires-clause-left
minus-requires-clause-left c =
    let fp : FitsSigned w128 c.product.result = omega (arith, ints) in
    simp to_z-of_z (omega (arith, (sized c).base_size, (sized c).slope_size))

pub minus-requires-clause-right : goal.minus-requires-clause-right
minus-requires-clause-right c =
    let fp : FitsSigned w128 c.product-2.result = omega (arith, ints) in
    simp to_z-of_z (omega (arith, (sized c).side_size, (sized c).slope_size))

pub returns-clause-value : goal.returns-clause-value
returns-clause-value c =
    let at = (goal.at.returns-clause-value c).After-product-2 in
    let fp : FitsSigned w128 c.product.result = omega (arith, ints) in
    let fq : FitsSigned w128 c.product-2.result = omega (arith, ints) in
    let fm : FitsSigned w128 c.minus.result = omega (arith, ints) in
    simp to_z-of_z (rw ((first at).0, (second at).0) at (simp to_z-of_z at c.minus.ensures.value))

pub returns-clause-size : goal.returns-clause-size
returns-clause-size c =
    let at = (goal.at.returns-clause-size c).After-product-2 in
    let fp : FitsSigned w128 c.product.result = omega (arith, ints) in
    let fq : FitsSigned w128 c.product-2.result = omega (arith, ints) in
    let fm : FitsSigned w128 c.minus.result = omega (arith, ints) in
    simp to_z-of_z (omega (arith, simp to_z-of_z at c.minus.ensures.size, (sized at).base_size, (sized at).side_size))
