use Rattle.ordered_list.proofs.Rising.{Rises-removed}
use Rattle.ordered_tree.specs.Branches.{items_of}
use Rattle.ordered_tree.proofs.tree.OrderedTree.without.Goals as goal

pub invariant_of-result : goal.invariant_of-result
invariant_of-result g c =
    let cmp = g.K.Key.Ord.cmp in
    let n = c.self.invariant in
    record {
      rises = rw (c.in_ok-root.ensures.listed n.rises) (Rises-removed cmp g.met.K.Key.Ord.total g.K.KeyOf.key_of c.args.key.now (items_of c.self.inside.root) n.rises);
      counted = c.in_ok-root.ensures.counted;
    }
