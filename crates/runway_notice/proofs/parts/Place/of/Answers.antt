use Rattle.std.proofs.Common.{◌≡◌, ◌≤◌, ℤ, ℕ, unsigned_abs, FitsSigned, w64, ap, to_z-of_z, arith, ◌∙◌}
use Rattle.std.proofs.lemmas.Int.{ints}
use Rattle.grid_exact.specs.Lines.{IsOffset, IsReach, IsSquare}
use Rattle.grid_exact.specs.Vector.{along_of, across_of, length_of}
use Rattle.grid_exact.specs.declared.start.TheConstants.{POINT_REACH}
use Rattle.grid_exact.proofs.AxisLemmas.{along_reach, aside_reach}
use Rattle.runway_notice.proofs.parts.Place.of.Goals as goal

-- the numbers of a way v from the start are those that a point of the grid has
sizes : (m m' q : ℤ) (a n n' : ℕ) → m' ≡ m → a ≡ unsigned_abs q → n' ≡ n → IsSquare n → IsReach (unsigned_abs m) n → IsReach (unsigned_abs q) n → IsOffset m' a n'
sizes m m' q a n n' e d h s along aside = rw (e, d, h) (record { line = s; along = along; aside = aside })

pub invariant_of-result : goal.invariant_of-result
invariant_of-result c =
    let v = c.to_point-way.result in
    let line = c.args.line.now in
    let way = line.way in
    let f : FitsSigned w64 c.dot.result = omega (arith, ints) in
    let g : FitsSigned w64 c.cross.result = omega (arith, ints) in
    let x : unsigned_abs v.x ≤ POINT_REACH = omega (arith, ints, c.to_point-way.ensures.x, line.from.near.x_size, c.args.point.now.on_grid) in
    let y : unsigned_abs v.y ≤ POINT_REACH = omega (arith, ints, c.to_point-way.ensures.y, line.from.near.y_size, c.args.point.now.on_grid) in
    let a : c.unsigned_abs.result ≡ unsigned_abs c.cross.result = simp to_z-of_z at c.unsigned_abs.ensures.value in
    simp to_z-of_z (record {
      sizes = sizes (along_of v.x v.y way.x way.y) c.dot.result (across_of v.x v.y way.x way.y) c.unsigned_abs.result (length_of way.x way.y) c.square_length.result
          c.dot.ensures.value (a ∙ ap unsigned_abs c.cross.ensures.value) c.square_length.ensures.value line.square
          (along_reach v.x v.y way.x way.y x y line.square) (aside_reach v.x v.y way.x way.y x y line.square);
    })
