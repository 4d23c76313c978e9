use Rattle.std.proofs.Common.{◌≡◌, ◌-◌, ◌+◌, ◌+ℤ◌, w64, FitsSigned, to_z-of_z, arith}
use Rattle.std.proofs.lemmas.Int.{ints}
use Rattle.surface_tree.specs.Levels.{side_of}
use Rattle.surface_tree.specs.Squares.{IsSquare}
use Rattle.surface_tree.proofs.Sides.{side-pred}
use Rattle.surface_tree.proofs.square.Square.quarter.Goals as goal

pub invariant_of-result : goal.invariant_of-result
invariant_of-result c =
    let s = c.args.self.now in
    let q : IsSquare s.west s.south s.side s.level = s.square in
    let h : side_of s.level ≡ side_of (s.level - 1) + side_of (s.level - 1) = side-pred s.level c.requires.deep in
    let fe : FitsSigned w64 c.args.east = c.ranges.east in
    let fn : FitsSigned w64 c.args.north = c.ranges.north in
    let fw : FitsSigned w64 s.west = omega (arith, ints, q) in
    let fs : FitsSigned w64 s.south = omega (arith, ints, q) in
    let fh : FitsSigned w64 c.half.result = omega (arith, ints, c.half.ensures, q, h) in
    let f1 : FitsSigned w64 (s.west +ℤ c.args.east) = omega (arith, ints, q, c.requires, h) in
    let f2 : FitsSigned w64 (s.south +ℤ c.args.north) = omega (arith, ints, q, c.requires, h) in
    simp to_z-of_z (record {
      square = record {
        not_deep = omega (arith, q);
        side_is = c.half.ensures;
        west_in = omega (arith, ints, q, c.requires, h);
        south_in = omega (arith, ints, q, c.requires, h);
        east_in = omega (arith, ints, q, c.requires, h, c.half.ensures);
        north_in = omega (arith, ints, q, c.requires, h, c.half.ensures);
      };
    })
