use Rattle.std.proofs.Common.{◌+ℤ◌, ◌-ℤ◌, FitsSigned, w64, to_z-of_z, arith, refl}
use Rattle.std.proofs.lemmas.Int.{ints}
use Rattle.runway_notice.proofs.area.around.Goals as goal

pub returns : goal.returns
returns c =
    let p = c.args.point.now in
    let r = c.args.radius in
    let fr : FitsSigned w64 r = c.ranges.radius in
    let fx : FitsSigned w64 p.x = omega (arith, ints, p.on_grid.west, p.on_grid.east) in
    let fy : FitsSigned w64 p.y = omega (arith, ints, p.on_grid.south, p.on_grid.north) in
    let fw : FitsSigned w64 (p.x -ℤ r) = omega (arith, ints, p.on_grid.west, p.on_grid.east, c.requires.least, c.requires.most) in
    let fs : FitsSigned w64 (p.y -ℤ r) = omega (arith, ints, p.on_grid.south, p.on_grid.north, c.requires.least, c.requires.most) in
    let fe : FitsSigned w64 (p.x +ℤ r) = omega (arith, ints, p.on_grid.west, p.on_grid.east, c.requires.least, c.requires.most) in
    let fn : FitsSigned w64 (p.y +ℤ r) = omega (arith, ints, p.on_grid.south, p.on_grid.north, c.requires.least, c.requires.most) in
    simp to_z-of_z refl
