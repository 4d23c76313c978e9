use Rattle.std.proofs.Common.{◌≡◌, ◌*ℤ◌, FitsSigned, w64, to_z-of_z, arith, ◌∙◌, refl}
use Rattle.std.proofs.lemmas.Int.{ints}
use Rattle.runway_notice.proofs.PartFacts.{difference_is}
use Rattle.runway_notice.proofs.parts.cross.Goals as goal

pub returns-clause-value : goal.returns-clause-value
returns-clause-value c =
    let a = c.args.a.now in
    let b = c.args.b.now in
    let ax : FitsSigned w64 a.x = omega (arith, ints, a.short.x_size) in
    let ay : FitsSigned w64 a.y = omega (arith, ints, a.short.y_size) in
    let bx : FitsSigned w64 b.x = omega (arith, ints, b.short.x_size) in
    let by : FitsSigned w64 b.y = omega (arith, ints, b.short.y_size) in
    let e : c.product.result ≡ a.x *ℤ b.y = simp to_z-of_z at c.product.ensures.value in
    let f : c.product-2.result ≡ a.y *ℤ b.x = simp to_z-of_z at c.product-2.ensures.value in
    difference_is c.product.result c.product-2.result c.product.ensures.size c.product-2.ensures.size ∙ rw (e, f) refl

pub returns-clause-size : goal.returns-clause-size
returns-clause-size c =
    rw (difference_is c.product.result c.product-2.result c.product.ensures.size c.product-2.ensures.size) (omega (arith, ints, c.product.ensures.size, c.product-2.ensures.size))
