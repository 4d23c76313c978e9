use Rattle.std.proofs.Common.{rules, ◌≡◌, FitsSigned, w64, to_z-of_z, arith}
use Rattle.std.proofs.lemmas.Int.{ints}
use Rattle.std.specs.Int.{int_max, int_min}
use Rattle.outline_boxes.proofs.BoxFacts.{joined_least}
use Rattle.outline_boxes.proofs.boxes.joined.Goals as goal

pub returns : goal.returns
returns c =
    let a = c.args.a.now in
    let b = c.args.b.now in
    let a1 : FitsSigned w64 c.args.a.now.x0 = search rules in
    let a2 : FitsSigned w64 c.args.a.now.y0 = search rules in
    let a3 : FitsSigned w64 c.args.a.now.x1 = search rules in
    let a4 : FitsSigned w64 c.args.a.now.y1 = search rules in
    let b1 : FitsSigned w64 c.args.b.now.x0 = search rules in
    let b2 : FitsSigned w64 c.args.b.now.y0 = search rules in
    let b3 : FitsSigned w64 c.args.b.now.x1 = search rules in
    let b4 : FitsSigned w64 c.args.b.now.y1 = search rules in
    let w : c.min.result ≡ int_min a.x0 b.x0 = simp to_z-of_z at c.min.ensures.value in
    let s : c.min-2.result ≡ int_min a.y0 b.y0 = simp to_z-of_z at c.min-2.ensures.value in
    let e : c.max.result ≡ int_max a.x1 b.x1 = simp to_z-of_z at c.max.ensures.value in
    let n : c.max-2.result ≡ int_max a.y1 b.y1 = simp to_z-of_z at c.max-2.ensures.value in
    let f1 : FitsSigned w64 c.min.result = omega (arith, ints) in
    let f2 : FitsSigned w64 c.min-2.result = omega (arith, ints) in
    let f3 : FitsSigned w64 c.max.result = omega (arith, ints) in
    let f4 : FitsSigned w64 c.max-2.result = omega (arith, ints) in
    record { exact = simp to_z-of_z (joined_least a b (record { x0 = c.min.result; y0 = c.min-2.result; x1 = c.max.result; y1 = c.max-2.result }) w s e n) }
