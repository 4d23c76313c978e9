use Rattle.std.proofs.Common.{ap, ◌∙◌, arith, FitsSigned, w64, to_z-of_z}
use Rattle.std.proofs.lemmas.Int.{ints, clamps}
use Rattle.grid_exact.specs.declared.area.Area.{Area}
use Rattle.outline_boxes.proofs.KeptBoxes.{same_points}
use Rattle.outline_boxes.proofs.bounds.Bounds.on_grid.Goals as goal

pub returns : goal.returns
returns c = λ x.
    let a = c.args.area.now in
    let f0 : FitsSigned w64 a.x0 = omega (arith, ints) in
    let f1 : FitsSigned w64 a.y0 = omega (arith, ints) in
    let f2 : FitsSigned w64 a.x1 = omega (arith, ints) in
    let f3 : FitsSigned w64 a.y1 = omega (arith, ints) in
    let west = simp to_z-of_z at c.nearest.ensures in
    let south = simp to_z-of_z at c.nearest-2.ensures in
    let east = simp to_z-of_z at c.nearest-3.ensures in
    let north = simp to_z-of_z at c.nearest-4.ensures in
    let r0 : FitsSigned w64 c.nearest.result = omega (arith, ints, clamps, west) in
    let r1 : FitsSigned w64 c.nearest-2.result = omega (arith, ints, clamps, south) in
    let r2 : FitsSigned w64 c.nearest-3.result = omega (arith, ints, clamps, east) in
    let r3 : FitsSigned w64 c.nearest-4.result = omega (arith, ints, clamps, north) in
    let box_west = simp to_z-of_z at (ap (λ (b : Area). b.x0) c.of.ensures) in
    let box_south = simp to_z-of_z at (ap (λ (b : Area). b.y0) c.of.ensures) in
    let box_east = simp to_z-of_z at (ap (λ (b : Area). b.x1) c.of.ensures) in
    let box_north = simp to_z-of_z at (ap (λ (b : Area). b.y1) c.of.ensures) in
    same_points a _ x (record {
      west = box_west ∙ west;
      south = box_south ∙ south;
      east = box_east ∙ east;
      north = box_north ∙ north;
    })

pub of-requires : goal.of-requires
of-requires c =
    let a = c.args.area.now in
    let f0 : FitsSigned w64 a.x0 = omega (arith, ints) in
    let f1 : FitsSigned w64 a.y0 = omega (arith, ints) in
    let f2 : FitsSigned w64 a.x1 = omega (arith, ints) in
    let f3 : FitsSigned w64 a.y1 = omega (arith, ints) in
    let west = simp to_z-of_z at c.nearest.ensures in
    let south = simp to_z-of_z at c.nearest-2.ensures in
    let east = simp to_z-of_z at c.nearest-3.ensures in
    let north = simp to_z-of_z at c.nearest-4.ensures in
    let r0 : FitsSigned w64 c.nearest.result = omega (arith, ints, clamps, west) in
    let r1 : FitsSigned w64 c.nearest-2.result = omega (arith, ints, clamps, south) in
    let r2 : FitsSigned w64 c.nearest-3.result = omega (arith, ints, clamps, east) in
    let r3 : FitsSigned w64 c.nearest-4.result = omega (arith, ints, clamps, north) in
    simp to_z-of_z (record {
      x0_low = omega (arith, ints, clamps, west);
      x0_high = omega (arith, ints, clamps, west);
      y0_low = omega (arith, ints, clamps, south);
      y0_high = omega (arith, ints, clamps, south);
      x1_low = omega (arith, ints, clamps, east);
      x1_high = omega (arith, ints, clamps, east);
      y1_low = omega (arith, ints, clamps, north);
      y1_high = omega (arith, ints, clamps, north);
    })
