use Rattle.std.proofs.Common.{◌+◌, List, subst}
use Rattle.std.specs.List.{list_any}
use Rattle.std.proofs.lemmas.List.{take_rest}
use Rattle.horizontal_hull.specs.Arcs.{ArcShape}
use Rattle.horizontal_hull.specs.declared.sizes.TheConstants.{CONICAL_RISE}
use Rattle.horizontal_hull.specs.Rises.{IsLeastRise, in_risen}
use Rattle.horizontal_hull.proofs.CloseFacts.{close_behind}
use Rattle.horizontal_hull.proofs.Rises.{so_far_all, so_far_more}
use Rattle.horizontal_hull.proofs.rise.least_rise.Goals as goal

pub rise_with-rise-requires-clause-close : goal.rise_with-rise-requires-clause-close
rise_with-rise-requires-clause-close c = close_behind c.args.arcs.now c.loop-i.i c.index-arcs-i.result c.args.x.now c.loop-i-test.true c.index-arcs-i.is c.requires.close

pub loop-i-preserved : goal.loop-i-preserved
loop-i-preserved c =
    let arcs = c.args.arcs.now in
    let i = c.loop-i.i in
    let a = c.index-arcs-i.result in
    let p = in_risen c.args.x.now in
    so_far_more p arcs i a (CONICAL_RISE + 1) c.loop-i.rise c.rise_with-rise.result c.loop-i-test.true c.index-arcs-i.is c.loop-i.invariant
    (subst (λ (xs : List ArcShape). IsLeastRise (λ k. list_any (p k a) xs) c.loop-i.rise c.rise_with-rise.result) (take_rest arcs (i + 1)) c.rise_with-rise.ensures)

pub returns : goal.returns
returns c = so_far_all (in_risen c.args.x.now) c.args.arcs.now c.loop-i.i (CONICAL_RISE + 1) c.loop-i.rise c.loop-i-test.false c.loop-i.invariant
