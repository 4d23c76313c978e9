use Rattle.std.proofs.Common.{◌≡◌, ℕ, ℤ, pos, ◌+◌, ◌+ℤ◌, ◌-ℤ◌, refl, ap, ◌∙◌, FitsSigned, w64, to_z-of_z, arith}
use Rattle.std.proofs.lemmas.Int.{ints}
use Rattle.center_polygon.specs.Spots.{Spot}
use Rattle.horizontal_hull.specs.Arcs.{ArcShape}
use Rattle.horizontal_hull.specs.Areas.{disc_box}
use Rattle.horizontal_hull.proofs.areas.disc_box.Goals as goal

boxed : (a : ArcShape) (c : ℕ) (x y f g : ℤ) → x ≡ a.x → y ≡ a.y → f ≡ pos a.radius → g ≡ pos c → record { x0 = x -ℤ (f +ℤ g); y0 = y -ℤ (f +ℤ g); x1 = x +ℤ (f +ℤ g); y1 = y +ℤ (f +ℤ g) } ≡ disc_box c a
boxed a c x y f g ex ey ef eg =
    let s : f +ℤ g ≡ pos (a.radius + c) = omega (arith, ints, ef, eg) in
    rw (s, ex, ey) refl

pub returns : goal.returns
returns c =
    let x : ℤ = c.start-center.result.x in
    let y : ℤ = c.start-center.result.y in
    let f : ℤ = c.from.result in
    let g : ℤ = c.from-2.result in
    let near = c.start-center.result.near in
    let ff : FitsSigned w64 f = omega (arith, ints, c.from.ensures) in
    let fg : FitsSigned w64 g = omega (arith, ints, c.from-2.ensures) in
    let fs : FitsSigned w64 (f +ℤ g) = omega (arith, ints, c.from.ensures, c.from-2.ensures) in
    let fx : FitsSigned w64 x = omega (arith, ints, near.x_size) in
    let fy : FitsSigned w64 y = omega (arith, ints, near.y_size) in
    let fw : FitsSigned w64 (x -ℤ (f +ℤ g)) = omega (arith, ints, c.from.ensures, c.from-2.ensures, near.x_size) in
    let fe : FitsSigned w64 (x +ℤ (f +ℤ g)) = omega (arith, ints, c.from.ensures, c.from-2.ensures, near.x_size) in
    let fb : FitsSigned w64 (y -ℤ (f +ℤ g)) = omega (arith, ints, c.from.ensures, c.from-2.ensures, near.y_size) in
    let ft : FitsSigned w64 (y +ℤ (f +ℤ g)) = omega (arith, ints, c.from.ensures, c.from-2.ensures, near.y_size) in
    simp to_z-of_z (boxed c.args.arc.now c.args.c x y f g (c.start-center.ensures.x ∙ ap (λ (s : Spot). s.x) c.center.ensures) (c.start-center.ensures.y ∙ ap (λ (s : Spot). s.y) c.center.ensures)
    (omega (arith, ints, c.from.ensures, c.radius.ensures)) (omega (arith, ints, c.from-2.ensures)))
