use Rattle.std.specs.Arc.{arc_value}
use Rattle.ordered_list.proofs.Mapped.{shared-Rises}
use Rattle.ordered_list.proofs.list.OrderedList+Arc+T.share.Goals as goal

pub invariant_of-result : goal.invariant_of-result
invariant_of-result g c =
    shared-Rises g.T.Key.Ord.cmp g.T.Keyed.key arc_value _ _ _ _ c.self.invariant c.deref-item-items.ensures.value c.loop-item-test.false c.loop-item.invariant
