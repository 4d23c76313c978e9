use Rattle.std.proofs.Common.{◌&&◌, nat_eq, arith, subst, FitsSigned, w64, to_z-of_z}
use Rattle.std.specs.Prelude.{int_le}
use Rattle.std.proofs.lemmas.Bool.{and_parts}
use Rattle.std.proofs.lemmas.Int.{ints}
use Rattle.surface_tree.specs.declared.placed.Plot.{Plot}
use Rattle.surface_tree.specs.Changes.{LiesIn}
use Rattle.surface_tree.proofs.tree.lies_in.Goals as goal

pub returns : goal.returns
returns g c = λ h.
    let a = c.args.plot.now in
    let b = c.plot-inner.result in
    let a0 : FitsSigned w64 a.area.x0 = omega (arith, ints) in
    let a1 : FitsSigned w64 a.area.x1 = omega (arith, ints) in
    let a2 : FitsSigned w64 a.area.y0 = omega (arith, ints) in
    let a3 : FitsSigned w64 a.area.y1 = omega (arith, ints) in
    let b0 : FitsSigned w64 b.area.x0 = omega (arith, ints) in
    let b1 : FitsSigned w64 b.area.x1 = omega (arith, ints) in
    let b2 : FitsSigned w64 b.area.y0 = omega (arith, ints) in
    let b3 : FitsSigned w64 b.area.y1 = omega (arith, ints) in
    let all = simp to_z-of_z at h in
    let t = and_parts (((nat_eq b.level a.level && int_le a.area.x0 b.area.x0) && int_le b.area.x1 a.area.x1) && int_le a.area.y0 b.area.y0) (int_le b.area.y1 a.area.y1) all in
    let u = and_parts ((nat_eq b.level a.level && int_le a.area.x0 b.area.x0) && int_le b.area.x1 a.area.x1) (int_le a.area.y0 b.area.y0) t.0 in
    let v = and_parts (nat_eq b.level a.level && int_le a.area.x0 b.area.x0) (int_le b.area.x1 a.area.x1) u.0 in
    let w = and_parts (nat_eq b.level a.level) (int_le a.area.x0 b.area.x0) v.0 in
    subst (λ (z : Plot). LiesIn z a) c.plot-inner.ensures (record {
      level = grind (arith, w.0);
      west = grind (arith, ints, w.1);
      east = grind (arith, ints, v.1);
      south = grind (arith, ints, u.1);
      north = grind (arith, ints, t.1);
    })
