use Rattle.std.specs.Arc.{arc_value}
use Rattle.ordered_list.proofs.Rising.{Rises-put}
use Rattle.ordered_tree.specs.Branches.{items_of}
use Rattle.ordered_tree.proofs.tree.OrderedTree.with.Goals as goal

pub invariant_of-result : goal.invariant_of-result
invariant_of-result g c =
    let cmp = g.K.Key.Ord.cmp in
    let n = c.self.invariant in
    record {
      rises = rw (c.in_ok-root.ensures.listed n.rises) (Rises-put cmp g.met.K.Key.Ord.total g.K.KeyOf.key_of (arc_value c.args.item) (items_of c.self.inside.root) n.rises);
      counted = c.in_ok-root.ensures.counted;
    }
