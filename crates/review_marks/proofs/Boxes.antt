-- Boxes about boxes.
use Rattle.std.proofs.Common.{◌≡◌, false, Option, Some, None, refl, arith}
use Rattle.std.proofs.lemmas.Int.{ints}
use Rattle.grid_exact.specs.Area.{has_point}
use Rattle.grid_exact.specs.declared.area.Area.{Area}
use Rattle.grid_exact.specs.declared.point.Point.{Point}
use Rattle.outline_boxes.specs.Boxes.{Encloses, HoldsBoth, IsLeastBox}
use Rattle.review_marks.specs.Near.{IsAround}

out : (outer inner : Area) (x : Point) → Encloses outer inner → has_point outer x ≡ false → has_point inner x ≡ false
out outer inner x e h = grind (arith, ints, e.west, e.south, e.east, e.north, h)

pub around_itself : (a : Option Area) → IsAround a a
around_itself a x h = h

pub around_none : (box a : Option Area) → a ≡ None → IsAround box a
around_none box a e x h = rw e refl

pub around_first : (a b box : Area) (o : Option Area) → o ≡ Some a → IsLeastBox (HoldsBoth a b) box → IsAround (Some box) o
around_first a b box o e h x f = rw e (out box a x h.holds.first f)

pub around_second : (a b box : Area) (o : Option Area) → o ≡ Some b → IsLeastBox (HoldsBoth a b) box → IsAround (Some box) o
around_second a b box o e h x f = rw e (out box b x h.holds.second f)
