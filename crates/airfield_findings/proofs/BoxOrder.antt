-- The order of boxes.
use Rattle.std.proofs.Common.{◌≡◌, ℤ, pos, ◌+ℤ◌, ◌-ℤ◌, ◌≤ℤ◌, unsigned_abs, arith}
use Rattle.std.proofs.lemmas.Int.{ints}
use Rattle.grid_exact.specs.declared.area.Area.{Area}
use Rattle.outline_boxes.specs.Boxes.{Encloses, IsLeastBox}
use Rattle.airfield_findings.specs.Around.{around_point}

pub encloses_same : (a : Area) → Encloses a a
encloses_same a = record { west = omega (arith, ints); south = omega (arith, ints); east = omega (arith, ints); north = omega (arith, ints) }

-- two least boxes of one thing lie in each other
pub least_once : (Holds : Area → Type 0) (a b : Area) → IsLeastBox Holds a → IsLeastBox Holds b → Encloses a b × Encloses b a
least_once Holds a b h k = (k.least a h.holds, h.least b k.holds)

-- boxes that lie in each other are the same
level : (x y : ℤ) → x ≤ℤ y → y ≤ℤ x → x ≡ y
level x y h k = omega (arith, ints, h, k)

pub encloses_both : (a b : Area) → Encloses a b → Encloses b a → a ≡ b
encloses_both a b h k =
    let w = level a.x0 b.x0 h.west k.west in
    let s = level a.y0 b.y0 h.south k.south in
    let e = level a.x1 b.x1 k.east h.east in
    let n = level a.y1 b.y1 k.north h.north in
    λ i. record { x0 = w i; y0 = s i; x1 = e i; y1 = n i }

-- the box about a point has those about points near it, of what is left of its reach
pub around_near : (x y u v r s d : ℤ) → pos (unsigned_abs (u -ℤ x)) ≤ℤ d → pos (unsigned_abs (v -ℤ y)) ≤ℤ d → (d +ℤ s) ≤ℤ r → Encloses (around_point x y r) (around_point u v s)
around_near x y u v r s d p q l = record {
  west = omega (arith, ints, p, l);
  south = omega (arith, ints, q, l);
  east = omega (arith, ints, p, l);
  north = omega (arith, ints, q, l);
}

pub around_less : (x y r s : ℤ) → s ≤ℤ r → Encloses (around_point x y r) (around_point x y s)
around_less x y r s l = record { west = omega (arith, ints, l); south = omega (arith, ints, l); east = omega (arith, ints, l); north = omega (arith, ints, l) }

-- where a line from one point to another ends
pub around_end : (a : Area) (x y u v r : ℤ) → Encloses a (around_point (x +ℤ (u -ℤ x)) (y +ℤ (v -ℤ y)) r) → Encloses a (around_point u v r)
around_end a x y u v r h = record { west = omega (arith, ints, h.west); south = omega (arith, ints, h.south); east = omega (arith, ints, h.east); north = omega (arith, ints, h.north) }

pub end_around : (a : Area) (x y u v r : ℤ) → Encloses a (around_point u v r) → Encloses a (around_point (x +ℤ (u -ℤ x)) (y +ℤ (v -ℤ y)) r)
end_around a x y u v r h = record { west = omega (arith, ints, h.west); south = omega (arith, ints, h.south); east = omega (arith, ints, h.east); north = omega (arith, ints, h.north) }
