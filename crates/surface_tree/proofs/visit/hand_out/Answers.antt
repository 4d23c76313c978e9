use Rattle.std.proofs.Common.{◌≡◌, take}
use Rattle.std.proofs.lemmas.List.{take_all}
use Rattle.surface_tree.specs.Parts.{item_of}
use Rattle.surface_tree.proofs.Picks.{hand_more}
use Rattle.surface_tree.proofs.visit.hand_out.Goals as goal

pub loop-pick-preserved : goal.loop-pick-preserved
loop-pick-preserved g c =
    λ d u xs s.
    hand_more (g.W.Visitor.seen u c.item.new.self) item_of c.args.entries.now c.args.picks.now c.loop-pick.pick-index d c.index-entries-pick.result xs c.deref.result.now c.loop-pick-test.true c.requires.within c.deref.ensures (c.item.ensures u _ (c.loop-pick.invariant d u xs s))

pub returns : goal.returns
returns g c =
    record {
      seen = λ d u xs s.
          let e : take c.loop-pick.pick-index c.args.picks.now ≡ c.args.picks.now = take_all c.loop-pick.pick-index c.args.picks.now c.loop-pick-test.false in
          rw e at (c.loop-pick.invariant d u xs s);
    }
