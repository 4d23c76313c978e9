use Rattle.std.proofs.Common.{◌+ℤ◌, ◌-ℤ◌, FitsSigned, w64, to_z-of_z, arith}
use Rattle.std.proofs.lemmas.Int.{ints}
use Rattle.height_rules.specs.declared.area.TheConstants.{OUTER_REACH}
use Rattle.height_rules.proofs.AreaFacts.{reach_least}
use Rattle.height_rules.proofs.area.disc_box.Goals as goal

pub returns : goal.returns
returns c =
    let arp = c.args.arp.now in
    let fx : FitsSigned w64 arp.x = omega (arith, ints, arp.on_grid.west, arp.on_grid.east) in
    let fy : FitsSigned w64 arp.y = omega (arith, ints, arp.on_grid.south, arp.on_grid.north) in
    let fw : FitsSigned w64 (arp.x -ℤ OUTER_REACH) = omega (arith, ints, arp.on_grid.west, arp.on_grid.east) in
    let fs : FitsSigned w64 (arp.y -ℤ OUTER_REACH) = omega (arith, ints, arp.on_grid.south, arp.on_grid.north) in
    let fe : FitsSigned w64 (arp.x +ℤ OUTER_REACH) = omega (arith, ints, arp.on_grid.west, arp.on_grid.east) in
    let fn : FitsSigned w64 (arp.y +ℤ OUTER_REACH) = omega (arith, ints, arp.on_grid.south, arp.on_grid.north) in
    simp to_z-of_z (reach_least arp)
