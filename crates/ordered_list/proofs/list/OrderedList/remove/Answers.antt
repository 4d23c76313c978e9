use Rattle.ordered_list.proofs.Rising.{Rises-removed}
use Rattle.ordered_list.proofs.Searches.{search_read, search_none, search_taken, search_left}
use Rattle.ordered_list.proofs.list.OrderedList.remove.Goals as goal

pub invariant_of-self : goal.invariant_of-self
invariant_of-self g c =
    let taken = search_taken g.T.Key.Ord.cmp g.met.T.Key.Ord.total g.T.Keyed.key c.args.key.now _ _ c.in-Ok.i c.remove.result c.self.invariant c.as_slice.ensures.value c.in-Ok.ensures.within c.in-Ok.ensures.found in
    rw (c.remove.ensures.items, taken) (Rises-removed g.T.Key.Ord.cmp g.met.T.Key.Ord.total g.T.Keyed.key c.args.key.now _ c.self.invariant)

pub returns-in-Ok-clause-removed : goal.returns-in-Ok-clause-removed
returns-in-Ok-clause-removed g c =
    rw (c.remove.ensures.items, ← c.self.view_is)
    (search_taken g.T.Key.Ord.cmp g.met.T.Key.Ord.total g.T.Keyed.key c.args.key.now _ _ c.in-Ok.i c.remove.result c.self.invariant c.as_slice.ensures.value c.in-Ok.ensures.within c.in-Ok.ensures.found)

pub returns-in-Ok-clause-taken : goal.returns-in-Ok-clause-taken
returns-in-Ok-clause-taken g c =
    rw (← c.self.view_is)
    (search_read g.T.Key.Ord.cmp g.met.T.Key.Ord.total g.T.Keyed.key c.args.key.now _ _ c.in-Ok.i c.remove.result c.self.invariant c.as_slice.ensures.value c.in-Ok.ensures.within c.in-Ok.ensures.found c.remove.ensures.value)

pub returns-in-Err-clause-removed : goal.returns-in-Err-clause-removed
returns-in-Err-clause-removed g c =
    rw (← c.self.view_is)
    (search_left g.T.Key.Ord.cmp g.met.T.Key.Ord.total g.T.Keyed.key c.args.key.now _ _ _ c.self.invariant c.as_slice.ensures.value c.in-Err.ensures.found)

pub returns-in-Err-clause-taken : goal.returns-in-Err-clause-taken
returns-in-Err-clause-taken g c =
    rw (← c.self.view_is)
    (search_none g.T.Key.Ord.cmp g.met.T.Key.Ord.total g.T.Keyed.key c.args.key.now _ _ _ c.self.invariant c.as_slice.ensures.value c.in-Err.ensures.found)
