use Rattle.std.proofs.Common.{◌≡◌, ◌⊎◌, inl, inr, ℤ, ◌+ℤ◌, ◌-ℤ◌, ◌≤ℤ◌, unsigned_abs, FitsSigned, w64, to_z-of_z, arith}
use Rattle.std.proofs.lemmas.Int.{ints}
use Rattle.grid_exact.specs.Lines.{square}
use Rattle.grid_exact.specs.declared.area.Area.{Area}
use Rattle.outline_boxes.proofs.EdgeSizes.{vector_part}
use Rattle.outline_boxes.specs.Shapes.{rectangle_shape}
use Rattle.outline_boxes.proofs.BoxFacts.{IsSpan, IsTightRectangle, rectangle_has, rectangle_least}
use Rattle.outline_boxes.proofs.rectangle.RectangleOutline.area.Goals as goal
use Rattle.outline_boxes.proofs.rectangle.RectangleOutline.area.Goals.{After-past-2}

pub lower-requires-2-clause-way : goal.lower-requires-2-clause-way
lower-requires-2-clause-way c =
    let s = c.args.self.now in
    let f : FitsSigned w64 s.axis.way.y = omega (arith, ints, s.axis.way.short) in
    simp to_z-of_z (vector_part (unsigned_abs s.axis.way.y) (unsigned_abs s.axis.way.x) (square (rectangle_shape s).line) (omega arith) s.axis.square.size)

pub higher-requires-clause-way : goal.higher-requires-clause-way
higher-requires-clause-way c =
    let s = c.args.self.now in
    let f : FitsSigned w64 s.axis.way.x = omega (arith, ints, s.axis.way.short) in
    simp to_z-of_z (vector_part (unsigned_abs s.axis.way.x) (unsigned_abs s.axis.way.y) (square (rectangle_shape s).line) (omega arith) s.axis.square.size)

pub higher-requires-2-clause-way : goal.higher-requires-2-clause-way
higher-requires-2-clause-way c =
    let s = c.args.self.now in
    let f : FitsSigned w64 s.axis.way.y = omega (arith, ints, s.axis.way.short) in
    simp to_z-of_z (vector_part (unsigned_abs s.axis.way.y) (unsigned_abs s.axis.way.x) (square (rectangle_shape s).line) (omega arith) s.axis.square.size)

-- the four sides of the box
abbrev side_of : (c : After-past-2) → Area
side_of c = record { x0 = c.short_of.result; y0 = c.short_of-2.result; x1 = c.past.result; y1 = c.past-2.result }

-- in one coordinate, from the lower and the higher of both ends
span : (from way reach low high x0 x1 : ℤ) → low -ℤ x0 ≡ reach → x1 -ℤ high ≡ reach → low ≤ℤ from → low ≤ℤ (from +ℤ way) → (low ≡ from) ⊎ (low ≡ from +ℤ way) →
    from ≤ℤ high → (from +ℤ way) ≤ℤ high → (high ≡ from) ⊎ (high ≡ from +ℤ way) → IsSpan from way reach x0 x1
span from way reach low high x0 x1 a b l1 l2 l3 h1 h2 h3 = record {
  low_start = omega (arith, ints, a, l1);
  low_end = omega (arith, ints, a, l2);
  low_one = elim l3 [ inl e ↦ inl (omega (arith, ints, a, e)) | inr e ↦ inr (omega (arith, ints, a, e)) ];
  high_start = omega (arith, ints, b, h1);
  high_end = omega (arith, ints, b, h2);
  high_one = elim h3 [ inl e ↦ inl (omega (arith, ints, b, e)) | inr e ↦ inr (omega (arith, ints, b, e)) ];
}

tight : (c : After-past-2) → IsTightRectangle c.edges-edges.result (rectangle_shape c.args.self.now).line (side_of c)
tight c =
    let s = c.args.self.now in
    let fx : FitsSigned w64 s.axis.way.x = omega (arith, ints, s.axis.way.short) in
    let fy : FitsSigned w64 s.axis.way.y = omega (arith, ints, s.axis.way.short) in
    let gx : FitsSigned w64 s.axis.from.x = omega (arith, ints, s.axis.from.near) in
    let gy : FitsSigned w64 s.axis.from.y = omega (arith, ints, s.axis.from.near) in
    let f1 : FitsSigned w64 c.lower.result = omega (arith, ints) in
    let f2 : FitsSigned w64 c.lower-2.result = omega (arith, ints) in
    let f3 : FitsSigned w64 c.higher.result = omega (arith, ints) in
    let f4 : FitsSigned w64 c.higher-2.result = omega (arith, ints) in
    let f5 : FitsSigned w64 c.reach-east.result = omega (arith, ints) in
    let f6 : FitsSigned w64 c.reach-north.result = omega (arith, ints) in
    let ax : c.unsigned_abs-2.result ≡ unsigned_abs s.axis.way.x = simp to_z-of_z at c.unsigned_abs-2.ensures.value in
    let ay : c.unsigned_abs.result ≡ unsigned_abs s.axis.way.y = simp to_z-of_z at c.unsigned_abs.ensures.value in
    record {
      x_reach = c.reach-east.result;
      y_reach = c.reach-north.result;
      x_is = rw ay at c.reach-east.ensures.reach;
      y_is = rw ax at c.reach-north.ensures.reach;
      x_span = span s.axis.from.x s.axis.way.x c.reach-east.result c.lower.result c.higher.result c.short_of.result c.past.result
          (simp to_z-of_z at c.short_of.ensures.value) (simp to_z-of_z at c.past.ensures.value)
          (simp to_z-of_z at c.lower.ensures.start) (simp to_z-of_z at c.lower.ensures.end) (simp to_z-of_z at c.lower.ensures.one)
          (simp to_z-of_z at c.higher.ensures.start) (simp to_z-of_z at c.higher.ensures.end) (simp to_z-of_z at c.higher.ensures.one);
      y_span = span s.axis.from.y s.axis.way.y c.reach-north.result c.lower-2.result c.higher-2.result c.short_of-2.result c.past-2.result
          (simp to_z-of_z at c.short_of-2.ensures.value) (simp to_z-of_z at c.past-2.ensures.value)
          (simp to_z-of_z at c.lower-2.ensures.start) (simp to_z-of_z at c.lower-2.ensures.end) (simp to_z-of_z at c.lower-2.ensures.one)
          (simp to_z-of_z at c.higher-2.ensures.start) (simp to_z-of_z at c.higher-2.ensures.end) (simp to_z-of_z at c.higher-2.ensures.one);
    }

pub returns-clause-exact : goal.returns-clause-exact
returns-clause-exact c =
    let f1 : FitsSigned w64 c.short_of.result = omega (arith, ints) in
    let f2 : FitsSigned w64 c.short_of-2.result = omega (arith, ints) in
    let f3 : FitsSigned w64 c.past.result = omega (arith, ints) in
    let f4 : FitsSigned w64 c.past-2.result = omega (arith, ints) in
    simp to_z-of_z (rectangle_least (rectangle_shape c.args.self.now) c.edges-edges.result (side_of c) c.edges-edges.ensures (tight c))

pub returns-clause-has : goal.returns-clause-has
returns-clause-has c =
    let f1 : FitsSigned w64 c.short_of.result = omega (arith, ints) in
    let f2 : FitsSigned w64 c.short_of-2.result = omega (arith, ints) in
    let f3 : FitsSigned w64 c.past.result = omega (arith, ints) in
    let f4 : FitsSigned w64 c.past-2.result = omega (arith, ints) in
    simp to_z-of_z (rectangle_has (rectangle_shape c.args.self.now) c.edges-edges.result (side_of c) c.edges-edges.ensures (tight c))
