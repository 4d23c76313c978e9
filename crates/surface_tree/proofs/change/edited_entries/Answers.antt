use Rattle.std.specs.Arc.{arc_value}
use Rattle.std.proofs.lemmas.Result.{IfOk-weaker}
use Rattle.surface_tree.proofs.Owned.{own_copied, own_taken, own_with}
use Rattle.surface_tree.proofs.change.edited_entries.Goals as goal

pub returns-in_ok-item-in-Some : goal.returns-in_ok-item-in-Some
returns-in_ok-item-in-Some g c =
    IfOk-weaker c.entries_with.result _ _
    (λ v p. λ k w s y value f h.
    let fits = rw c.in-Some.is at f in
    rw c.in-Some.is (own_with g.T.Key.Ord.cmp g.met.T.Key.Ord.total g.T.Placed.key_of g.T.Placed.plot_of c.args.edit.now.key c.args.edit.now.plot value k w s y (arc_value c.in-Some.item)
    (record { bounds = c.of-bounds.result; item = c.in_ok-item-in-Some.item }) c.args.entries.now v.items fits c.in_ok-item-in-Some.ensures c.of-bounds.ensures p h))
    c.entries_with.ensures

pub returns-in_ok-all-in-None : goal.returns-in_ok-all-in-None
returns-in_ok-all-in-None g c =
    λ k w s y value f h.
    let all = own_copied g.T.Placed.plot_of value k w s c.args.entries.now c.in_ok-all-in-None.all.items c.in_ok-all-in-None.ensures.told h in
    let fits = rw c.in-None.is at f in
    rw c.in-None.is (own_taken g.T.Key.Ord.cmp g.met.T.Key.Ord.total g.T.Placed.key_of g.T.Placed.plot_of c.args.edit.now.key c.args.edit.now.plot value k w s y c.in_ok-all-in-None.all.items _ fits c.take_entry.ensures all)
