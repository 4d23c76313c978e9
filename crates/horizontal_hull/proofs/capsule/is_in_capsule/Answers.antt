use Rattle.std.proofs.Common.{◌≡◌, ◌↔◌, ◌<◌, ◌≤◌, ℕ, Bool, true, false, IsTrue, nat_le, arith}
use Rattle.std.proofs.lemmas.Bool.Decides.{nat_tests}
use Rattle.grid_exact.specs.declared.point.Point.{Point}
use Rattle.grid_exact.proofs.TestFacts.{same_test}
use Rattle.horizontal_hull.specs.declared.edge.Edge.{Edge}
use Rattle.horizontal_hull.specs.Arcs.{ArcShape}
use Rattle.horizontal_hull.specs.Capsules.{InTapered, in_capsule, in_tapered}
use Rattle.horizontal_hull.proofs.Beside.{not_in_capsule}
use Rattle.horizontal_hull.proofs.Tests.{InTapered-test}
use Rattle.horizontal_hull.proofs.capsule.is_in_capsule.Goals as goal

tapered : (edge : Edge) (a b : ArcShape) (x : Point) (c : ℕ) (r : Bool) → (IsTrue r ↔ InTapered edge a b x c) → r ≡ in_tapered edge a b x c
tapered edge a b x c r h = let t = InTapered-test edge a b x c in same_test r (in_tapered edge a b x c) h t.0 t.1

not_larger : (m n : ℕ) → m ≤ n → nat_le m n ≡ true
not_larger m n h = grind (arith, nat_tests)

larger : (m n : ℕ) → n < m → nat_le m n ≡ false
larger m n h = grind (arith, nat_tests)

first : (edge : Edge) (a b : ArcShape) (x : Point) (c : ℕ) (r : Bool) → a.radius ≤ b.radius → (IsTrue r ↔ InTapered edge a b x c) → r ≡ in_capsule edge a b x c
unfolding in_capsule
first edge a b x c r l h = rw (not_larger a.radius b.radius l) (tapered edge a b x c r h)

second : (edge : Edge) (a b : ArcShape) (x : Point) (c : ℕ) (r : Bool) → b.radius < a.radius → (IsTrue r ↔ InTapered edge b a x c) → r ≡ in_capsule edge a b x c
unfolding in_capsule
second edge a b x c r l h = rw (larger a.radius b.radius l) (tapered edge b a x c r h)

pub returns-then-is_beside : goal.returns-then-is_beside
returns-then-is_beside c = not_in_capsule c.args.edge c.args.a.now c.args.b.now c.args.x.now c.args.c (c.is_beside.ensures.0 c.if-is_beside.true)

pub returns-then-radius : goal.returns-then-radius
returns-then-radius c =
    first c.args.edge c.args.a.now c.args.b.now c.args.x.now c.args.c c.is_in_tapered.result (omega (arith, c.radius.ensures, c.radius-2.ensures, c.if-radius.true)) c.is_in_tapered.ensures

pub returns-else-radius : goal.returns-else-radius
returns-else-radius c =
    second c.args.edge c.args.a.now c.args.b.now c.args.x.now c.args.c c.is_in_tapered-else-radius.result (omega (arith, c.radius.ensures, c.radius-2.ensures, c.if-radius.false))
    c.is_in_tapered-else-radius.ensures
