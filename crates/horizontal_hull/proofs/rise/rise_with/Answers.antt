use Rattle.std.proofs.Common.{subst, sym}
use Rattle.std.proofs.lemmas.List.{take_all}
use Rattle.horizontal_hull.specs.Arcs.{ArcShape}
use Rattle.horizontal_hull.specs.Close.{IsNearBoth}
use Rattle.horizontal_hull.specs.Rises.{IsLeastRise, in_risen}
use Rattle.horizontal_hull.proofs.CloseFacts.{near_behind}
use Rattle.horizontal_hull.proofs.Rises.{with_one_more}
use Rattle.horizontal_hull.proofs.rise.rise_with.Goals as goal

pub rise_of_two-rise-requires-clause-near : goal.rise_of_two-rise-requires-clause-near
rise_of_two-rise-requires-clause-near c =
    let a = c.args.a.now in
    let x = c.args.x.now in
    subst (λ (b : ArcShape). IsNearBoth a b x) (sym c.b-item.is) (near_behind a c.args.others.now x c.loop-b.b-index c.b-item.result c.requires.close c.loop-b-test.true)

pub loop-b-preserved : goal.loop-b-preserved
loop-b-preserved c =
    let a = c.args.a.now in
    let x = c.args.x.now in
    with_one_more (λ k. in_risen x k a) c.args.others.now c.loop-b.b-index c.b-item.result c.args.most c.loop-b.rise c.rise_of_two-rise.result c.loop-b-test.true c.loop-b.invariant
    (subst (λ (b : ArcShape). IsLeastRise (λ k. in_risen x k a b) c.loop-b.rise c.rise_of_two-rise.result) c.b-item.is c.rise_of_two-rise.ensures)

pub returns : goal.returns
returns c = rw (take_all c.loop-b.b-index c.args.others.now c.loop-b-test.false) at c.loop-b.invariant
