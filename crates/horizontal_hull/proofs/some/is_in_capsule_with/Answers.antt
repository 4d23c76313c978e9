use Rattle.std.proofs.Common.{sym, subst}
use Rattle.horizontal_hull.specs.Arcs.{ArcShape}
use Rattle.horizontal_hull.specs.Close.{IsNearBoth}
use Rattle.horizontal_hull.proofs.CloseFacts.{near_behind}
use Rattle.horizontal_hull.proofs.some.is_in_capsule_with.Goals as goal

pub is_in_capsule-requires-clause-near : goal.is_in_capsule-requires-clause-near
is_in_capsule-requires-clause-near c =
    let a = c.args.a.now in
    let x = c.args.x.now in
    subst (λ (b : ArcShape). IsNearBoth a b x) (sym c.b-item.is) (near_behind a c.args.others.now x c.loop-b.b-index c.b-item.result c.requires.close c.loop-b-test.true)
