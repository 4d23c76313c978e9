use Rattle.std.proofs.Common.{◌≡◌, ◌↔◌, pos, ◌-ℤ◌, ◌*ℤ◌, FitsSigned, w64, to_z-of_z, arith, Bool, true, not, refl}
use Rattle.std.specs.Prelude.{IsTrue}
use Rattle.std.specs.Int.{w128}
use Rattle.std.proofs.lemmas.Int.{ints, by_lt_z}
use Rattle.grid_exact.specs.Root.{AtMostRoot}
use Rattle.grid_exact.specs.Laws.{CoordinateReaches_above}
use Rattle.outline_boxes.proofs.EdgeSizes.{edges_small}
use Rattle.outline_boxes.proofs.edges.Edges.is_least.Goals as goal

never : (b : Bool) → b ≡ true → not b ≡ true → ⊥
never b h t = cc

pub returns-then-is_past : goal.returns-then-is_past
returns-then-is_past c = λ t.
    let s = c.args.self.now in
    let z = c.args.z in
    let p = c.args.part in
    let fs = (edges_small s.scale s.ahead s.near s.far s.square s.sized).scale_fits in
    let fz : FitsSigned w64 z = c.ranges.z in
    let fp : FitsSigned w128 p = c.ranges.part in
    let f1 : FitsSigned w64 (z -ℤ pos 1) = omega (arith, ints, c.requires.z) in
    let here : AtMostRoot p (s.scale *ℤ z) s.square = (simp to_z-of_z at c.if-is_past.ensures).0 refl in
    let before : IsTrue c.is_past-then-is_past.result ↔ AtMostRoot p (s.scale *ℤ (z -ℤ pos 1)) s.square = simp to_z-of_z at c.is_past-then-is_past.ensures in
    record {
      at = here;
      least = λ y r.
          by_lt_z y z
          (λ l. absurd (never c.is_past-then-is_past.result (before.1 (CoordinateReaches_above p s.scale s.square y (z -ℤ pos 1) s.sized.scale_least (omega (arith, ints, l)) r)) t))
          (λ l. l);
    }
