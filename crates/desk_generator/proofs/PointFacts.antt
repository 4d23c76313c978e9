-- Points by their coordinates.
use Rattle.std.proofs.Common.{arith, ◌≡◌, ◌≤ℤ◌, ℤ, pos, neg_ℤ, Bool, true, false, refl, ap, sym, ◌∙◌}
use Rattle.std.specs.Fmt.{signed_decimal}
use Rattle.std.proofs.lemmas.Int.{ints}
use Rattle.grid_exact.specs.Grid.{OnGrid}
use Rattle.grid_exact.specs.declared.point.Point.{Point}
use Rattle.grid_exact.specs.declared.point.TheConstants.{COORDINATE_LIMIT}
use Rattle.wire_cursor.proofs.GroupFacts.{one_point}
use Rattle.desk_generator.specs.Drawings.{is_on_grid, point_by, point}

pub near_grid : (x y : ℤ) → neg_ℤ (pos 600_000) ≤ℤ x → x ≤ℤ pos 600_000 → neg_ℤ (pos 600_000) ≤ℤ y → y ≤ℤ pos 600_000 → OnGrid x y
near_grid x y w e s n = record { west = omega (arith, ints); east = omega (arith, ints); south = omega (arith, ints); north = omega (arith, ints) }

test_of : (x y : ℤ) → OnGrid x y → is_on_grid x y ≡ true
test_of x y g = grind (arith, ints, g.west, g.east, g.south, g.north)

by_x : (x y : ℤ) (b : Bool) (h : is_on_grid x y ≡ b) → b ≡ true → (point_by x y b h).x ≡ x
by_x x y true h e = refl
by_x x y false h e = absurd (cc)

by_y : (x y : ℤ) (b : Bool) (h : is_on_grid x y ≡ b) → b ≡ true → (point_by x y b h).y ≡ y
by_y x y true h e = refl
by_y x y false h e = absurd (cc)

-- the point of these coordinates is the one that has them
own_point : (p : Point) → p ≡ point p.x p.y
unfolding point
own_point p =
    let t : is_on_grid p.x p.y ≡ true = test_of p.x p.y p.on_grid in
    one_point p (point p.x p.y) (ap signed_decimal (sym (by_x p.x p.y (is_on_grid p.x p.y) refl t)))
    (ap signed_decimal (sym (by_y p.x p.y (is_on_grid p.x p.y) refl t)))

pub is_point : (p : Point) (x y : ℤ) → p.x ≡ x → p.y ≡ y → p ≡ point x y
is_point p x y e f = own_point p ∙ ap (λ u. point u p.y) e ∙ ap (point x) f
