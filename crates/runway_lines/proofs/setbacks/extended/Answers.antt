use Rattle.std.proofs.Common.{◌≡◌, ◌*◌, ◌≤◌, ◌<◌, ℤ, ℕ, ◌-ℤ◌, unsigned_abs, FitsSigned, w64, to_z, of_z, to_z-of_z, arith, refl, ◌∙◌}
use Rattle.std.proofs.lemmas.Int.{ints}
use Rattle.runway_lines.specs.Centers.{IsSetback, point_beyond}
use Rattle.runway_lines.proofs.CenterFacts.{extended_back, extended_is, extended_only}
use Rattle.runway_lines.proofs.setbacks.extended.Goals as goal

-- a coordinate of the grid, less the setback
moved : (z w : ℤ) → unsigned_abs z ≤ 20000000 → unsigned_abs w ≤ 2000 → to_z w64 (of_z w64 (to_z w64 (of_z w64 z) -ℤ to_z w64 (of_z w64 w))) ≡ z -ℤ w
moved z w h k =
    let fz : FitsSigned w64 z = omega (arith, ints, h) in
    let fw : FitsSigned w64 w = omega (arith, ints, k) in
    let fd : FitsSigned w64 (z -ℤ w) = omega (arith, ints, h, k) in
    simp to_z-of_z refl

past : (here there w d : ℤ) (n : ℕ) → d ≡ there -ℤ here → unsigned_abs (there -ℤ here) * unsigned_abs (there -ℤ here) ≤ n → 0 < n → IsSetback d n w → here -ℤ w ≡ point_beyond here there n
past here there w d n e h p s = extended_only here there n (here -ℤ w) (point_beyond here there n) (extended_back here there n w (rw e at s)) (extended_is here there n h p)

pub invariant_of-result : goal.invariant_of-result
invariant_of-result c =
    let x : unsigned_abs c.args.here.now.x ≤ 20000000 = omega (arith, ints, c.args.here.now.on_grid) in
    let y : unsigned_abs c.args.here.now.y ≤ 20000000 = omega (arith, ints, c.args.here.now.on_grid) in
    rw (moved c.args.here.now.x c.setback.result x c.setback.ensures.size, moved c.args.here.now.y c.setback-2.result y c.setback-2.ensures.size)
    (record { near = record { x_size = omega (arith, ints, x, c.setback.ensures.size); y_size = omega (arith, ints, y, c.setback-2.ensures.size) } })

pub returns-clause-x : goal.returns-clause-x
returns-clause-x c =
    let x : unsigned_abs c.args.here.now.x ≤ 20000000 = omega (arith, ints, c.args.here.now.on_grid) in
    let fd : FitsSigned w64 c.between-toward.result.x = omega (arith, ints, c.between-toward.result.short) in
    let s : IsSetback c.between-toward.result.x c.args.square c.setback.result = simp to_z-of_z at c.setback.ensures.setback in
    moved c.args.here.now.x c.setback.result x c.setback.ensures.size
    ∙ past c.args.here.now.x c.args.there.now.x c.setback.result c.between-toward.result.x c.args.square c.between-toward.ensures.x c.requires.part_x c.requires.square.some s

pub returns-clause-y : goal.returns-clause-y
returns-clause-y c =
    let y : unsigned_abs c.args.here.now.y ≤ 20000000 = omega (arith, ints, c.args.here.now.on_grid) in
    let fd : FitsSigned w64 c.between-toward.result.y = omega (arith, ints, c.between-toward.result.short) in
    let s : IsSetback c.between-toward.result.y c.args.square c.setback-2.result = simp to_z-of_z at c.setback-2.ensures.setback in
    moved c.args.here.now.y c.setback-2.result y c.setback-2.ensures.size
    ∙ past c.args.here.now.y c.args.there.now.y c.setback-2.result c.between-toward.result.y c.args.square c.between-toward.ensures.y c.requires.part_y c.requires.square.some s
