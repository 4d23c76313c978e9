use Rattle.std.proofs.Common.{◌≤◌, ◌^◌, unsigned_abs, FitsSigned, w64, to_z-of_z, arith}
use Rattle.std.proofs.lemmas.Int.{ints}
use Rattle.horizontal_hull.specs.declared.sizes.TheConstants.{CENTERS_APART, POINT_APART}
use Rattle.horizontal_hull.proofs.BandSizes.{along_size, across_size, square_size}
use Rattle.horizontal_hull.proofs.band.Band.of.Goals as goal

pub invariant_of-result : goal.invariant_of-result
invariant_of-result c =
    let near = c.requires.near in
    let way = c.to_arc-way.result in
    let seen = c.to_point-seen.result in
    let ex : unsigned_abs way.x ≤ CENTERS_APART = rw c.to_arc-way.ensures.x near.way_x in
    let ey : unsigned_abs way.y ≤ CENTERS_APART = rw c.to_arc-way.ensures.y near.way_y in
    let vx : unsigned_abs seen.x ≤ POINT_APART = rw c.to_point-seen.ensures.x near.first_x in
    let vy : unsigned_abs seen.y ≤ POINT_APART = rw c.to_point-seen.ensures.y near.first_y in
    let size : unsigned_abs c.along_of.result ≤ 2 ^ 41 = rw c.along_of.ensures (along_size way.x way.y seen.x seen.y ex ey vx vy) in
    let fits : FitsSigned w64 c.along_of.result = omega (arith, ints, size) in
    record {
      sized = record {
        square_size = rw c.square_length.ensures.value (square_size way.x way.y ex ey);
        along_size = simp to_z-of_z size;
        across_size = rw c.across_of.ensures (across_size way.x way.y seen.x seen.y ex ey vx vy);
        growth_size = omega (arith, near.second_radius, c.radius.ensures);
        radius_size = omega (arith, near.first_radius, c.radius-3.ensures, c.requires.run);
      };
    }
