use Rattle.std.proofs.Common.{◌≡◌, ◌↔◌, Bool, true, false, IsTrue, List, subst}
use Rattle.grid_exact.specs.declared.point.Point.{Point}
use Rattle.center_polygon.specs.Spots.{Spot, at}
use Rattle.center_polygon.specs.Triangles.{InSomeTriangle, in_some_triangle}
use Rattle.center_polygon.specs.Walks.{IsRound, keeps_left}
use Rattle.center_polygon.proofs.Deciding.{InSomeTriangle-test, is_in_some_triangle}
use Rattle.center_polygon.proofs.Round.{keeps_left-InSomeTriangle}
use Rattle.center_polygon.proofs.polygon.CenterPolygon.has.Goals as goal

-- what is decided of the centers is decided of what the polygon is seen as
record IsDecided (now : List Spot) (x : Point) (r : Bool) : Type 0 where
  exact : IsTrue r ↔ InSomeTriangle now x
  test : r ≡ in_some_triangle now x

decided : (spots now : List Spot) (x : Point) (r : Bool) → spots ≡ now → (IsTrue r ↔ InSomeTriangle spots x) → IsDecided now x r
decided spots now x r e h = subst (λ (s : List Spot). IsDecided s x r) e (record { exact = h; test = is_in_some_triangle spots x r h })

none : (spots : List Spot) (x : Point) → (InSomeTriangle spots x → ⊥) → IsTrue false ↔ InSomeTriangle spots x
none spots x n = (λ t. absurd (let e : false ≡ true = t in cc), λ h. absurd (n h))

walked : (spots : List Spot) (first : Spot) (rest : List Spot) (x : Point) (r : Bool) → r ≡ keeps_left (at x) first first rest → IsRound spots first rest → IsTrue r ↔ InSomeTriangle spots x
walked spots first rest x r e h = rw e (keeps_left-InSomeTriangle spots first rest x h)

triples : (spots list : List Spot) (x : Point) (r : Bool) → list ≡ spots → r ≡ in_some_triangle list x → IsTrue r ↔ InSomeTriangle spots x
triples spots list x r e h = rw (h, e) (InSomeTriangle-test spots x)

pub returns-in-Flat : goal.returns-in-Flat
returns-in-Flat c =
    let spots = c.self.inside.centers.items in
    let d = decided spots c.args.self.now c.args.x.now false c.self.view_is (none spots c.args.x.now ((rw c.in-Flat.is at c.self.invariant) c.args.x.now)) in
    record { exact = d.exact; test = d.test }

pub returns-in-Round : goal.returns-in-Round
returns-in-Round c =
    let spots = c.self.inside.centers.items in
    let w = c.in-Round.walk in
    let d = decided spots c.args.self.now c.args.x.now c.keeps_left.result c.self.view_is
    (walked spots w.first w.rest.items c.args.x.now c.keeps_left.result c.keeps_left.ensures (rw c.in-Round.is at c.self.invariant)) in
    record { exact = d.exact; test = d.test }

pub returns-in-Loose : goal.returns-in-Loose
returns-in-Loose c =
    let spots = c.self.inside.centers.items in
    let d = decided spots c.args.self.now c.args.x.now c.is_in_some_triangle.result c.self.view_is
    (triples spots c.as_slice.result.now c.args.x.now c.is_in_some_triangle.result c.as_slice.ensures.value c.is_in_some_triangle.ensures) in
    record { exact = d.exact; test = d.test }
