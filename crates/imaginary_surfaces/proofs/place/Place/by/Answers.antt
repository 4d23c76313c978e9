use Rattle.std.proofs.Common.{◌≡◌, ◌≤◌, ℤ, ℕ, unsigned_abs, FitsSigned, w64, ap, to_z-of_z, arith, ◌∙◌}
use Rattle.std.specs.Int.{w128}
use Rattle.std.proofs.lemmas.Int.{ints}
use Rattle.grid_exact.specs.Lines.{IsOffset, IsReach, IsSquare}
use Rattle.grid_exact.specs.Vector.{along_of, across_of, length_of}
use Rattle.grid_exact.specs.declared.start.TheConstants.{POINT_REACH}
use Rattle.grid_exact.proofs.AxisLemmas.{along_reach, aside_reach}
use Rattle.imaginary_surfaces.proofs.place.Place.by.Goals as goal
use Rattle.imaginary_surfaces.proofs.place.Place.by.Goals.{After-unsigned_abs}

record Parts (c : After-unsigned_abs) : Type 0 where
  along : c.short-along.result ≡ along_of c.to_point-way.result.x c.to_point-way.result.y c.args.axis.now.way.x c.args.axis.now.way.y
  aside : c.unsigned_abs.result ≡ unsigned_abs (across_of c.to_point-way.result.x c.to_point-way.result.y c.args.axis.now.way.x c.args.axis.now.way.y)
  square : c.short_square-square.result ≡ length_of c.args.axis.now.way.x c.args.axis.now.way.y

parts : (c : After-unsigned_abs) → Parts c
parts c =
    let f : FitsSigned w128 c.dot.result = omega (arith, ints) in
    let g : FitsSigned w128 c.cross.result = omega (arith, ints) in
    let h : FitsSigned w64 c.short-aside.result = omega (arith, ints) in
    let a : c.short-along.result ≡ c.dot.result = simp to_z-of_z at c.short-along.ensures in
    let q : c.short-aside.result ≡ c.cross.result = simp to_z-of_z at c.short-aside.ensures in
    let u : c.unsigned_abs.result ≡ unsigned_abs c.short-aside.result = simp to_z-of_z at c.unsigned_abs.ensures.value in
    record { along = a ∙ c.dot.ensures.value; aside = u ∙ ap unsigned_abs (q ∙ c.cross.ensures.value); square = c.short_square-square.ensures ∙ c.square_length.ensures.value }

-- the numbers of a way v from the start are those that a point of the grid has
sizes : (m m' q : ℤ) (a n n' : ℕ) → m' ≡ m → a ≡ unsigned_abs q → n' ≡ n → IsSquare n → IsReach (unsigned_abs m) n → IsReach (unsigned_abs q) n → IsOffset m' a n'
sizes m m' q a n n' e d h s along aside = rw (e, d, h) (record { line = s; along = along; aside = aside })

pub invariant_of-result : goal.invariant_of-result
invariant_of-result c =
    let v = c.to_point-way.result in
    let way = c.args.axis.now.way in
    let p = parts c in
    let k : FitsSigned w64 c.short-along.result = omega (arith, ints) in
    let x : unsigned_abs v.x ≤ POINT_REACH = omega (arith, ints, c.to_point-way.ensures.x, c.args.axis.now.from.near.x_size, c.args.x.now.on_grid) in
    let y : unsigned_abs v.y ≤ POINT_REACH = omega (arith, ints, c.to_point-way.ensures.y, c.args.axis.now.from.near.y_size, c.args.x.now.on_grid) in
    simp to_z-of_z (sizes (along_of v.x v.y way.x way.y) c.short-along.result (across_of v.x v.y way.x way.y) c.unsigned_abs.result (length_of way.x way.y) c.short_square-square.result
    p.along p.aside p.square c.args.axis.now.square (along_reach v.x v.y way.x way.y x y c.args.axis.now.square) (aside_reach v.x v.y way.x way.y x y c.args.axis.now.square))
